-- Parsers, from left to right, as the code reads: the contracts of functions and proofs cite them. `ft_parse` proves of them what its
-- public contracts say in the grammar's words, so nothing here has to be believed.
pub mod Combinators
pub mod Cursor
pub mod Parts
pub mod Tokens
