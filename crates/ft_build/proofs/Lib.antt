pub mod ListLemmas
pub mod RangeLemmas
pub mod ValueLemmas
