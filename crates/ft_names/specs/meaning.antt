-- What a reader of this crate's contracts must believe: the places of a tree, what is asked there, and the faults.
pub mod Cards
pub mod Declared
pub mod Duplicates
pub mod First
pub mod NameFaults
pub mod Parts
pub mod Spots
pub mod Unknown
