-- What the names are inside, and how declaring goes: for the private contracts and proofs of this crate alone.
pub mod Cards
pub mod Counting
pub mod Names
