pub mod meaning
pub mod parsers
