-- Laws of traces and marks, and what the proofs need of the crates below.
pub mod Laws
