-- Statements of laws, each the clause of a function of src/law.rt.
pub mod Certificates
