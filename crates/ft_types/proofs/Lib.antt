pub mod EnvLemmas
pub mod GatherLemmas
