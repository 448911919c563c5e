-- How both sides go on by one scan.
pub mod BothRan
pub mod Differing
pub mod IsReplaying
pub mod Outputs
pub mod Rows
