use Rattle.std.proofs.Common.{◌≡◌, true}
use Rattle.ft_mean.specs.judge.Scope.{is_right, through}
use Rattle.ft_mean.proofs.judge.follows_at.Given as goal

abbrev pub invariant-loop-variable : goal.invariant-loop-variable
invariant-loop-variable l = through l.variable (is_right l.tables l.side l.given l.trace l.seen l.scan) ≡ true
