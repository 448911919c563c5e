pub mod gathering
pub mod meaning
