use Rattle.std.proofs.Common.{take}
use Rattle.ft_linear.specs.summing.Totals.{AreCleared, is_free}
use Rattle.ft_linear.proofs.totals.clear_factors.Given as goal

abbrev pub invariant-loop-factor : goal.invariant-loop-factor
invariant-loop-factor l = AreCleared l.initial.totals (λ u. is_free u (take l.factor-index l.factors)) l.totals
