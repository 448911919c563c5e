use Rattle.std.proofs.Common.{◌≡◌, map}
use Rattle.std.specs.List.{range_with_len}
use Rattle.ft_mean.specs.judge.Scope.{reading_by}
use Rattle.ft_mean.specs.judge.Seen.{recalled_at}
use Rattle.ft_mean.proofs.recall.recalled_rows.Given as goal

abbrev pub invariant-loop-scan : goal.invariant-loop-scan
invariant-loop-scan l = l.bits ≡ map (recalled_at l.known.tables.now (reading_by l.known.tables.now l.known.scope l.known.scans.now) l.seen)
    (range_with_len 0 l.scan)
