-- How the targets of a set are gathered: for the private contracts and proofs of this crate alone.
pub mod Gathered
