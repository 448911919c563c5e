-- What the search for the cells of a fault computes with.
pub mod KeptView
pub mod Places
pub mod Numbering
