-- What solves differences.
pub mod Differences
