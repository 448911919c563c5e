use Rattle.std.proofs.Common.{◌≡◌, length}
use Rattle.ft_linear.specs.summing.Totals.{AreClear}
use Rattle.ft_linear.proofs.totals.SumRoom.open.Given as goal

abbrev pub invariant-loop-unknown : goal.invariant-loop-unknown
invariant-loop-unknown l = (length l.totals.items ≡ l._unknown) × AreClear l.totals.items
