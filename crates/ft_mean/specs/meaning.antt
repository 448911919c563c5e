-- What a set means over whole lists of scans.
pub mod Allowed
pub mod Cells
pub mod Fits
pub mod Memory
pub mod Past
pub mod Proper
pub mod Reading
pub mod Refines
pub mod Value
