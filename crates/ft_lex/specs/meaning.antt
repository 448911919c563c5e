-- The tokens of a text.
pub mod Bytes
pub mod Place
pub mod Signs
pub mod Space
pub mod Tokens
