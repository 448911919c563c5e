-- Laws of what bytes spell and of marks, and what the proofs of this crate need of the crates below.
use Rattle.std.specs.Prelude.{ℕ, ◌≡◌, ◌≤◌, List, length}
use Rattle.ft_core.specs.declared.tables.Tables.{Tables}
use Rattle.ft_mean.specs.laws.Laws.{AllowedByScan}
use Rattle.ft_mean.specs.laws.RowLaws.{ReadAtPlace, ReadInFront}
use Rattle.ft_mean.specs.meaning.Allowed.{IsMonitored}
use Rattle.ft_mean.specs.meaning.Reading.{Scans}
use Rattle.ft_replay.specs.laws.Laws.{AllowedAfterLast}
use Rattle.ft_trace.specs.meaning.Spelling.{SpellsHistory}
use Rattle.ft_stream.specs.meaning.Mark.{HasMark, after_mark}

pub record Laws : Type 0 where
  pub after_last : AllowedAfterLast
  pub by_scan : AllowedByScan
  pub at_place : ReadAtPlace
  pub in_front : ReadInFront

-- the list that bytes spell is monitored: nonempty, each scan with a value in range for each monitored variable and no other
abbrev pub SpelledIsMonitored : Type 0
SpelledIsMonitored = (S : Tables) (bytes : List ℕ) (h : Scans) → SpellsHistory S bytes h → IsMonitored S h

-- what follows the mark is what stands after the first line that is one
abbrev pub FirstMarkIsSkipped : Type 0
FirstMarkIsSkipped = (bytes before after : List ℕ) → HasMark bytes before after
    → ((front rest : List ℕ) → HasMark bytes front rest → length before ≤ length front) → after_mark bytes ≡ after

-- where no line is one, it is the whole text
abbrev pub NoMarkIsWhole : Type 0
NoMarkIsWhole = (bytes : List ℕ) → ((before after : List ℕ) → HasMark bytes before after → ⊥) → after_mark bytes ≡ bytes
