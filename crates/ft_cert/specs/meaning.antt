-- What certificates are and when they hold: what the contracts of public functions cite.
pub mod Tree
pub mod Parts
pub mod Evidence
