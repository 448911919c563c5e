pub mod AtomLemmas
pub mod CanonicalLemmas
pub mod OccurrenceLemmas
pub mod PlaceLemmas
pub mod RawLemmas
pub mod SettleLemmas
