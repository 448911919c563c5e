-- What the steps that build an obligation compute with.
pub mod Finding
pub mod Homes
pub mod Linking
pub mod Moving
pub mod NthFact
pub mod Numbering
pub mod Spanning
pub mod Stating
