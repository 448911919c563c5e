-- The formulas of blocks and of lists: their parts, which of these belong, and the numbers that a scan of a reading gives their names.
pub mod Blocks
pub mod Facts
pub mod Labels
pub mod Linked
pub mod Lists
pub mod Made
pub mod Obligations
pub mod States
pub mod Tried
