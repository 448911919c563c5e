-- What a settled formula is.
pub mod Canonical
pub mod Raw
pub mod Settled
