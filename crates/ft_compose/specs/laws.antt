-- The laws of composition, and what the proofs need of the crates below.
pub mod CompositionLaws
pub mod DecidingLaws
pub mod FailureLaws
pub mod Laws
