-- What the contracts of public functions cite: this is what a reader has to believe.
pub mod Allowing
pub mod Scanning
