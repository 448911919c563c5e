-- What the steps that make a report's members compute with.
pub mod Adding
