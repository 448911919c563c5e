use Rattle.std.proofs.Common.{◌≡◌, ◌*◌, length}
use Rattle.ft_diff.proofs.gathering.open_lines.Given as goal

abbrev pub invariant-loop-atom : goal.invariant-loop-atom
invariant-loop-atom l = length l.lines.items ≡ 2 * l._atom-index
