use Rattle.std.proofs.Common.{◌≡◌}
use Rattle.ft_mean.specs.judge.Scope.{reading_by}
use Rattle.ft_mean.specs.judge.Seen.{after_rounds}
use Rattle.ft_mean.proofs.recall.recall.Given as goal

abbrev pub invariant-loop-round : goal.invariant-loop-round
invariant-loop-round l = (l.seen ≡ after_rounds l.known.tables.now (reading_by l.known.tables.now l.known.scope l.known.scans.now) l._round
    l.fn.start) × (l.seen.rows ≡ l.fn.start.rows) × (l.seen.past ≡ l.fn.start.past)
