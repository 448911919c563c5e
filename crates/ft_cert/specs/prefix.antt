-- How a tree is kept as the list of its nodes in prefix order.
pub mod Row
pub mod Code
