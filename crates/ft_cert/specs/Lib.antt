pub mod meaning
pub mod laws
pub mod prefix
pub mod walk
