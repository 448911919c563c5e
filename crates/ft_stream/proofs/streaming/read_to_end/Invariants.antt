use Rattle.std.proofs.Common.{ℕ, List, ◌≡◌, ◌-◌, ◌++◌, length}
use Rattle.ft_mean.specs.meaning.Reading.{Scans}
use Rattle.ft_trace.specs.meaning.Reader.{HasGiven}
use Rattle.ft_stream.proofs.streaming.read_to_end.Given as goal

abbrev pub invariant-scans : goal.invariant-scans
invariant-scans l = record {
  room : length l.row ≡ length l.initial.row;
  given : (bytes : List ℕ) (h : Scans) → HasGiven l.tables bytes l.initial.reader h
      → (rest : Scans) × HasGiven l.tables bytes l.reader (h ++ rest);
}

abbrev pub decreases-scans : goal.decreases-scans
decreases-scans l = 100000 - l.reader.scans
