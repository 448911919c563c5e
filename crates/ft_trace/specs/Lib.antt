pub mod meaning
pub mod rows
