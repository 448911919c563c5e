-- What only the contracts of private functions and proofs cite.
pub mod Command
pub mod Judging
pub mod Laws
