-- Laws of the parts of block formulas and of their names, and what the proofs need of the crates below.
pub mod ListPartLaws
pub mod Marked
pub mod NumberLaws
pub mod OwnSections
pub mod PartLaws
pub mod ReadsThere
pub mod Scans
pub mod Tests
