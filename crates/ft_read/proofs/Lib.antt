pub mod BoundLemmas
pub mod CursorLemmas
pub mod LexemeLemmas
pub mod SimpleLemmas
