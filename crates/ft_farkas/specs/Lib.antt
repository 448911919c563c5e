pub mod building
pub mod meaning
