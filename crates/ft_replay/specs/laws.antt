-- Laws of first differences, and what the proofs need of the crates below.
pub mod Laws
