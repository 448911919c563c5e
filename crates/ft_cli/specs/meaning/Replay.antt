-- What a report of `replay` says of a set and of the bytes of a trace.
use Rattle.std.specs.Prelude.{ℕ, ◌≢◌, List, None}
use Rattle.ft_core.specs.declared.tables.Tables.{Tables}
use Rattle.ft_mean.specs.meaning.Reading.{Scans}
use Rattle.ft_trace.specs.declared.fault.TraceFault.{TraceFault}
use Rattle.ft_trace.specs.declared.fault.TraceFault.TheVariants as fault
use Rattle.ft_trace.specs.meaning.Spelling.{IsFirstFault, SpellsHistory}
use Rattle.ft_stream.specs.declared.streaming.Streamed.TheVariants as streamed
use Rattle.ft_stream.specs.meaning.Streamed.{IsStreamed}
use Rattle.ft_report.specs.declared.short.Subject.TheVariants.{Obligation}
use Rattle.ft_report.specs.declared.report.Report.{Report}
use Rattle.ft_report.specs.declared.report.Report.TheVariants as report

-- a report that comes before it is known that all tables of a set are proper: a fault of the text, a fault that a table shows, or a search
-- that was spent; want of memory is free
abbrev pub IsEarly : Report → Type 0
IsEarly (report.Refused found) = Unit {0}
IsEarly (report.Gap S k state) = Unit {0}
IsEarly (report.Overlap S k first second state) = Unit {0}
IsEarly (report.OutOfRange S k cell state) = Unit {0}
IsEarly (report.Spent S (Obligation n) tree None) = Unit {0}
IsEarly report.NoMemory = Unit {0}
IsEarly _ = ⊥

-- the bytes spell no trace of the set, and this is the first fault
pub record IsTraceRefused (S : Tables) (bytes : List ℕ) (found : TraceFault) : Type 0 where
  pub cause : IsFirstFault S bytes found
  pub some : found ≢ fault.NoMemory
  pub none : (list : Scans) → SpellsHistory S bytes list → ⊥

-- what a report says of the two sides of a set with proper tables on the list that the bytes spell, or of the bytes where they spell
-- none or one that the environment forbids. Want of memory is free
abbrev pub IsRun : Tables → (bytes : List ℕ) → Report → Type 0
IsRun S bytes (report.Agree scans) = IsStreamed S bytes (streamed.Agree scans)
IsRun S bytes (report.Differ scan) = IsStreamed S bytes (streamed.Differ scan)
IsRun S bytes (report.NatRefuses scan) = IsStreamed S bytes (streamed.Forbidden scan)
IsRun S bytes (report.TraceRefused found) = IsTraceRefused S bytes found
IsRun S bytes report.NoMemory = Unit {0}
IsRun S bytes _ = ⊥
