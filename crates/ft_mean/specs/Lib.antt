pub mod judge
pub mod laws
pub mod meaning
