-- What the proofs need of the crates below.
pub mod Laws
