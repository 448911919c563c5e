-- What the steps of settling compute with.
pub mod Factors
