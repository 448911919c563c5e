-- What the answers say of the bytes.
pub mod Mark
pub mod Streamed
