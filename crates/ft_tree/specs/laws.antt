-- The statement of a law, and equations that need no tactic.
pub mod Chains
pub mod ExprParts
pub mod Tokens
