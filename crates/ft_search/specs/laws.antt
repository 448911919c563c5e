-- Laws of spent trees.
pub mod Budget
