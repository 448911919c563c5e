pub mod counting
pub mod laws
pub mod meaning
