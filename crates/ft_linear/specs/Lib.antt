pub mod judging
pub mod laws
pub mod meaning
pub mod summing
