-- What rows, kept rows, fractions and the answers of an elimination mean: what the contracts of public functions cite.
pub mod Answers
pub mod Fractions
pub mod Kept
pub mod Rows
