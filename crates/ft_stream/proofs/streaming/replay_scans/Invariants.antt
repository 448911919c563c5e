use Rattle.std.proofs.Common.{ℕ, List, ◌≡◌, ◌-◌, length}
use Rattle.ft_stream.specs.steps.Streams.{Streams}
use Rattle.ft_stream.proofs.streaming.replay_scans.Given as goal

abbrev pub invariant-scans : goal.invariant-scans
invariant-scans l = record {
  room : length l.row ≡ length l.initial.row;
  streams : (bytes : List ℕ) → Streams l.tables bytes l.initial.reader l.initial.replayer l.initial.earlier
      → Streams l.tables bytes l.reader l.replayer l.earlier;
}

abbrev pub decreases-scans : goal.decreases-scans
decreases-scans l = 100000 - length l.replayer.list
