-- Why the terms and conditions of a set that a tree without a fault spells are lawful.
pub mod Lists
pub mod Clean
pub mod Cards
pub mod Compose
pub mod Reads
pub mod Known
pub mod Fits
pub mod Sizes
pub mod Leaves
pub mod Spots
pub mod Lawful
