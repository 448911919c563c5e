-- What a refused scan is.
pub mod Refused
