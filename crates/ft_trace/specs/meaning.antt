-- What the bytes of a trace spell, and the text that is written.
pub mod Decimal
pub mod Field
pub mod Left
pub mod Reader
pub mod Source
pub mod Spelling
pub mod Writing
