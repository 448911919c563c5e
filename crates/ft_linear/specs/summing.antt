-- What the sum of lines is computed by.
pub mod Cancelling
pub mod Sizes
pub mod Totals
