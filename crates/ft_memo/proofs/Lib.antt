pub mod AgoLemmas
pub mod BandLemmas
pub mod TimerLemmas
