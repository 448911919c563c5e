-- What the proofs need of the crates below, and laws of what is closed, kept and found, for the crates above.
pub mod ClosedLaws
pub mod KeptLaws
pub mod Laws
pub mod Sought
