pub mod CoverLemmas
pub mod KeptLemmas
pub mod PointLemmas
pub mod SafeLemmas
pub mod SlotLemmas
pub mod WalkLemmas
