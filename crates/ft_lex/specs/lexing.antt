-- The reading of one token from left to right.
pub mod Lexing
