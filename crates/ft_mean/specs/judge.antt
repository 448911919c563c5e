-- What the judge of a finished trace computes with.
pub mod FirstCell
pub mod Safe
pub mod Scope
pub mod Seen
