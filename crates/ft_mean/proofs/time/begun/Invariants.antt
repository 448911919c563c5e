use Rattle.std.proofs.Common.{◌≡◌, ◌-◌}
use Rattle.ft_mean.specs.judge.Scope.{reading_by}
use Rattle.ft_mean.specs.meaning.Reading.{begun}
use Rattle.ft_mean.proofs.time.begun.Given as goal

-- none of the scans that were looked at begins
abbrev pub invariant-loop-back : goal.invariant-loop-back
invariant-loop-back l =
    begun l.known.tables.now (reading_by l.known.tables.now l.known.scope l.known.scans.now) l.scan
    ≡ begun l.known.tables.now (reading_by l.known.tables.now l.known.scope l.known.scans.now) (l.scan - l.back)
