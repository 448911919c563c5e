-- The statements of laws.
pub mod FormFacts
pub mod OneSet
pub mod TermFacts
