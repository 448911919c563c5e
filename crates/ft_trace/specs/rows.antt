-- One record read into a row of values, or written of one.
pub mod Row
pub mod Writer
