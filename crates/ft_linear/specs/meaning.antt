-- What forms, formulas, parts, marks and sums of lines mean: what the contracts of public functions cite.
pub mod Bounds
pub mod Difference
pub mod Forced
pub mod Form
pub mod Formula
pub mod Halving
pub mod Marks
pub mod Part
pub mod Rules
pub mod Truth
