-- How a tree is gone through by its nodes in prefix order: the parts that wait, and the steps from part to part.
pub mod Waiting
pub mod Steps
