-- What a refusal says: what the contract of `check` cites.
pub mod Fault
