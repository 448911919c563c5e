-- What the steps compute with that make the formulas of lists and read their points.
pub mod Defining
pub mod Telling
