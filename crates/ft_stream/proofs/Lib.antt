mod MarkLemmas
mod SpelledLemmas
mod StreamLemmas
