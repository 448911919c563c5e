-- What contracts see of a region.
pub mod Region
