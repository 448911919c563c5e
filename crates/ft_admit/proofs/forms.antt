-- Of what form the set is that a tree without a fault spells.
pub mod Blocks
pub mod Counts
pub mod Lists
pub mod Lookups
pub mod Names
pub mod Numbers
pub mod Shapes
pub mod Spelled
pub mod Tables
pub mod Targets
pub mod Values
pub mod Variables
pub mod Whole
