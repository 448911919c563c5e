-- How a search walks over the parts, and what its room holds.
pub mod Kept
pub mod Single
pub mod Sweep
pub mod Turn
pub mod Walk
pub mod Sizes
pub mod Space
