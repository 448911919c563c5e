pub mod building
pub mod laws
pub mod meaning
