pub mod CountsLemmas
pub mod FetchLemmas
