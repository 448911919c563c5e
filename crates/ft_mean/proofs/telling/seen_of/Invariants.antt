use Rattle.std.proofs.Common.{◌≡◌}
use Rattle.ft_mean.specs.judge.Scope.{kinds_of, scans_of}
use Rattle.ft_mean.specs.meaning.Reading.{reading_of}
use Rattle.ft_mean.proofs.telling.seen_of.Given as goal

abbrev pub invariant-loop-scan : goal.invariant-loop-scan
invariant-loop-scan l =
    let done = scans_of l.tables (reading_of l.tables (kinds_of l.scope) l.scans) l.scan in (l.rows ≡ done.rows) × (l.past ≡ done.past)
