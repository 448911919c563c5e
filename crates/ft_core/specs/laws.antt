-- What the crates above cite of these definitions: equations, and tests that compute.
pub mod CellTerms
pub mod CheckedTests
pub mod Equations
pub mod Lists
pub mod Places
pub mod Ranges
pub mod Sections
pub mod SizeEquations
pub mod VarPlaces
