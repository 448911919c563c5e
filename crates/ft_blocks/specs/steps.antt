-- What the steps of the code answer, for their private contracts.
pub mod Answers
pub mod Faults
