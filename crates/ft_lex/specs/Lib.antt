pub mod lexing
pub mod meaning
