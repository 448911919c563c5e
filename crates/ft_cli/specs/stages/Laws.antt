-- What the proofs of the top call need of the definitions of the crates below.
use Rattle.std.specs.Prelude.{ℕ, ◌≡◌, ◌≢◌, ◌≤◌, List, [], length}
use Rattle.ft_core.specs.declared.tables.Tables.{Tables}
use Rattle.ft_core.specs.meaning.Kinds.{monitored}
use Rattle.ft_mean.specs.laws.Laws.{AllowedByScan}
use Rattle.ft_mean.specs.laws.RowLaws.{ReadInFront}
use Rattle.ft_mean.specs.meaning.Reading.{IsListOf, Scans}
use Rattle.ft_claims.specs.laws.CoverLaws.{ProperShowsNone}
use Rattle.ft_claims.specs.laws.PointLaws.{ShownHasPoint}
use Rattle.ft_oblige.specs.laws.NumberLaws.{TablesHaveNumbers}
use Rattle.ft_compose.specs.laws.CompositionLaws.{FaultlessCompose}
use Rattle.ft_compose.specs.laws.FailureLaws.{FailingIsOpen}
use Rattle.ft_admit.specs.laws.OneSet.{OneSet}
use Rattle.ft_trace.specs.meaning.Spelling.{SpellsHistory}
use Rattle.ft_trace.specs.meaning.Writing.{trace_text}
use Rattle.ft_stream.specs.laws.Laws.{FirstMarkIsSkipped}

abbrev pub OneHistory : Type 0
OneHistory = (S : Tables) (bytes : List ℕ) (h k : Scans) → SpellsHistory S bytes h → SpellsHistory S bytes k → h ≡ k

abbrev pub WrittenIsSpelled : Type 0
WrittenIsSpelled = (S : Tables) (h : Scans) → IsListOf S monitored h → h ≢ [] → length h ≤ 100000 → SpellsHistory S (trace_text S h) h

pub record Laws : Type 0 where
  pub one_set : OneSet
  pub shows_none : ProperShowsNone
  pub has_point : ShownHasPoint
  pub tables_have : TablesHaveNumbers
  pub compose : FaultlessCompose
  pub failing_open : FailingIsOpen
  pub by_scan : AllowedByScan
  pub in_front : ReadInFront
  pub one_history : OneHistory
  pub written : WrittenIsSpelled
  pub mark : FirstMarkIsSkipped
