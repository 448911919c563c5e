use Rattle.std.proofs.Common.{◌≡◌, true, take}
use Rattle.ft_linear.specs.summing.Cancelling.{are_cancelled}
use Rattle.ft_linear.proofs.rules.are_cancelled.Given as goal

abbrev pub invariant-loop-factor : goal.invariant-loop-factor
invariant-loop-factor l = are_cancelled l.kept l.totals (take l.factor-index l.factors) ≡ true
