pub mod NarrowingLemmas
pub mod CycleLemmas
pub mod LineLemmas
