-- What a reader of this crate must believe.
pub mod Cycles
pub mod Faultless
pub mod SetFaults
pub mod TreeFaults
pub mod Trees
pub mod TypeFaults
pub mod Uses
