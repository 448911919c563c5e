use Rattle.std.proofs.Common.{◌≡◌, length}
use Rattle.ft_linear.proofs.marks.open_signs.Given as goal

abbrev pub invariant-loop-atom : goal.invariant-loop-atom
invariant-loop-atom l = length l.signs.items ≡ l.atom-index
