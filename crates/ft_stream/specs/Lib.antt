pub mod laws
pub mod meaning
pub mod steps
