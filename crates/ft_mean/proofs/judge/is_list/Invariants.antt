use Rattle.std.proofs.Common.{◌≡◌, true}
use Rattle.ft_mean.specs.judge.Scope.{kinds_of, is_row, through}
use Rattle.ft_mean.proofs.judge.is_list.Given as goal

abbrev pub invariant-loop-scan : goal.invariant-loop-scan
invariant-loop-scan l = through l.scan (is_row l.tables (kinds_of l.scope) l.scans) ≡ true
