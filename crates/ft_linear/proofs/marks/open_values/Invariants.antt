use Rattle.std.proofs.Common.{◌≡◌, length}
use Rattle.ft_linear.proofs.marks.open_values.Given as goal

abbrev pub invariant-loop-atom : goal.invariant-loop-atom
invariant-loop-atom l = length l.values.items ≡ l.atom-index
