-- Equations of the definitions, and statements of laws, for the proofs of this crate and of those above it.
pub mod First
pub mod Lists
pub mod Names
pub mod Parts
