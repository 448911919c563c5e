pub mod meaning
pub mod searching
pub mod laws
