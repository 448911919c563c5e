pub mod FaultLemmas
pub mod GoalLemmas
pub mod OrderLemmas
