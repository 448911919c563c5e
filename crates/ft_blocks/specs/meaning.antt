-- What a reader of this crate must believe.
pub mod Cycles
pub mod Faults
pub mod Goals
