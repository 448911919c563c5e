-- What a contract sees of a reader of a trace.
use Rattle.std.specs.Prelude.{ℕ, List, Option}
use Rattle.ft_trace.specs.meaning.Source.{Follows, rows_left}
use Rattle.ft_trace.specs.declared.reading.End.{End}
use Rattle.ft_trace.specs.declared.reading.TraceReader.TheInside.{Inside}

-- the records that are left, how many scans were given, and how it ended, if it did
pub record Left : Type 0 where
  pub rest : List (List (List ℕ))
  pub scans : ℕ
  pub ended : Option End

abbrev pub left_of : Inside → Left
left_of r = record { rest = rows_left r.reader; scans = r.scans; ended = r.ended }

abbrev pub Keeps : Inside → Type 0
Keeps r = Follows r.reader
