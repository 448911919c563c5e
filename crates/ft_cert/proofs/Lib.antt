pub mod TreeLemmas
pub mod WaitingLemmas
pub mod SoundLemmas
pub mod StepLemmas
