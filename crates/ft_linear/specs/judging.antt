-- What the passes over a tree compute with.
pub mod Evaluation
pub mod Slots
pub mod Weighing
