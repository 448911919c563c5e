pub mod gathering
pub mod meaning
pub mod narrowing
