pub mod BoundedLemmas
pub mod EnvLemmas
pub mod SizeLemmas
pub mod SlopeLemmas
pub mod SmallLemmas
