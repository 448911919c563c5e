-- What a reader of this crate's contracts must believe: what each place of a tree asks for, and what may be read where.
pub mod Kinds
pub mod Mismatch
pub mod PlaceFaults
pub mod Ranges
pub mod Shapes
pub mod Sides
pub mod Targets
