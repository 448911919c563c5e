use Rattle.std.proofs.Common.{◌≡◌, true}
use Rattle.ft_mean.specs.judge.Scope.{kinds_of, in_range, through}
use Rattle.ft_mean.proofs.judge.are_in_range.Given as goal

abbrev pub invariant-loop-variable : goal.invariant-loop-variable
invariant-loop-variable l = through l.variable (in_range l.tables (kinds_of l.scope) l.scans l.scan) ≡ true
