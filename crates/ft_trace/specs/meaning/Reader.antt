-- What a reader of a trace stands for: the bytes, and the scans that it gave.
use Rattle.std.specs.Prelude.{ℕ, Bool, false, ◌≡◌, List, length, Option, Some, None, Result, Ok, Err}
use Rattle.ft_core.specs.declared.tables.Tables.{Tables}
use Rattle.ft_mean.specs.meaning.Reading.{Scans}
use Rattle.ft_trace.specs.meaning.Left.{Left}
use Rattle.ft_trace.specs.meaning.Spelling.{IsFirstFault, Row, SpellsHistory, SpellsSoFar}
use Rattle.ft_trace.specs.declared.fault.TraceFault.{TraceFault}
use Rattle.ft_trace.specs.declared.reading.End.{End}
use Rattle.ft_trace.specs.declared.reading.End.TheVariants as end

-- how it ended is right of the bytes and the scans that were given
abbrev pub IsEnd : Tables → List ℕ → Scans → List Row → Option End → Type 0
IsEnd S bytes h rest None = SpellsSoFar S bytes h rest
IsEnd S bytes h rest (Some end.Whole) = SpellsHistory S bytes h
IsEnd S bytes h rest (Some (end.Refused fault)) = IsFirstFault S bytes fault

-- the reader of these bytes has given these scans, and the bytes begin with them
pub record HasGiven (S : Tables) (bytes : List ℕ) (reader : Left) (h : Scans) : Type 0 where
  pub count : reader.scans ≡ length h
  pub after : List Row
  pub so_far : SpellsSoFar S bytes h after
  pub is_end : IsEnd S bytes h reader.rest reader.ended

abbrev pub answer_of : End → Result Bool TraceFault
answer_of end.Whole = Ok false
answer_of (end.Refused fault) = Err fault
