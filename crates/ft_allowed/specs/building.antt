-- What the code computes of a row.
pub mod Ranging
