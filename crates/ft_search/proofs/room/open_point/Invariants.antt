use Rattle.std.proofs.Common.{◌≡◌, length}
use Rattle.ft_search.proofs.room.open_point.Given as goal

abbrev pub invariant-loop-span : goal.invariant-loop-span
invariant-loop-span l = length l.point.items ≡ l.span-index
