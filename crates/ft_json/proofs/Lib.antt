mod EntryLemmas
mod PlainLemmas
mod StateLemmas
mod WordLemmas
