-- Parsers, from left to right, as the code reads: the contracts of private functions and proofs cite them, and nothing here has to be
-- believed.
pub mod Counts
pub mod Expressions
pub mod Faults
pub mod Items
pub mod Precedence
pub mod Repetition
pub mod Steps
