-- How the values of a region lie in its block, and who owns it.
pub mod Ownership
pub mod Places
