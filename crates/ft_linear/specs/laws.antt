-- Statements of laws, each the clause of a function of src/law.rt, and equations.
pub mod Forms
pub mod Nodes
pub mod Parts
pub mod Sums
