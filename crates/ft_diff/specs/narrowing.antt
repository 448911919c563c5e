-- What lines leave of spans, step by step.
pub mod Outcome
