mod Basics
pub mod FormLemmas
pub mod FormLaws
pub mod ForcedLaws
pub mod SlotLemmas
pub mod ForcingLemmas
pub mod Whole
pub mod PartLaws
pub mod OnePointLemmas
pub mod PointLaws
pub mod SingleLaws
pub mod MarksLemmas
pub mod UnknownLemmas
pub mod RuleLemmas
pub mod TotalLemmas
