-- What is found of the coverage of a set's tables.
pub mod Covered
pub mod Attempted
