pub mod meaning
pub mod building
