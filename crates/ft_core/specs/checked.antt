-- What was checked of a set.
pub mod Blocks
pub mod Checked
pub mod Distinct
pub mod Names
pub mod Short
pub mod Size
pub mod Sound
