-- What a reader of this crate's contracts must believe: measures of expressions, and what isn't linear.
pub mod Measures
pub mod SlopeFaults
pub mod Slopes
