pub mod BareLemmas
pub mod DraftLemmas
pub mod ItemLemmas
pub mod TextLemmas
