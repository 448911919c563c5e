pub mod Top
pub mod meaning
pub mod stages
