-- What a reader of this crate's contracts must believe: the set that a tree spells, part by part.
pub mod Blocks
pub mod Conditions
pub mod Sets
pub mod Tables
pub mod Terms
pub mod Variables
