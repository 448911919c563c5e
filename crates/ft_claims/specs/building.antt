-- What the steps of building a formula compute with.
pub mod Marking
