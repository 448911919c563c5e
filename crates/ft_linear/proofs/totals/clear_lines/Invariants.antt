use Rattle.std.proofs.Common.{take}
use Rattle.ft_linear.specs.summing.Totals.{AreCleared, are_free}
use Rattle.ft_linear.proofs.totals.clear_lines.Given as goal

abbrev pub invariant-loop-line : goal.invariant-loop-line
invariant-loop-line l = AreCleared l.initial.totals (λ u. are_free l.formula l.part u (take l.line-index l.lines)) l.totals
