-- What the steps that write a report compute with.
pub mod Thirds
