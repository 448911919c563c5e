-- The laws of the formulas of lists, and what the proofs need of the crates below.
pub mod Laws
pub mod ListLaws
pub mod NumberLaws
pub mod ShortLaws
