pub mod meaning
pub mod checking
