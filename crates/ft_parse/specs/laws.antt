-- The statements of laws.
pub mod Uniqueness
