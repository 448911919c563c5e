-- How variables are counted: for the private contracts and proofs of this crate alone.
pub mod Totals
