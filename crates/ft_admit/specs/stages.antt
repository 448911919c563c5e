-- What the stages of the code answer, for their private contracts.
pub mod Chain
pub mod Circles
pub mod Sorts
pub mod Uses
