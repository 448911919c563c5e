use Rattle.std.proofs.Common.{take}
use Rattle.ft_linear.specs.summing.Totals.{AreAdded}
use Rattle.ft_linear.proofs.totals.add_factors.Given as goal

abbrev pub invariant-loop-factor : goal.invariant-loop-factor
invariant-loop-factor l = AreAdded l.initial.totals l.times (take l.factor-index l.factors) l.totals
