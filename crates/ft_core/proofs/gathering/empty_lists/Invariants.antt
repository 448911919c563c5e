use Rattle.std.proofs.Common.{◌≡◌, [], replicate}
use Rattle.ft_core.proofs.gathering.empty_lists.Given as goal

abbrev pub invariant-loop-item : goal.invariant-loop-item
invariant-loop-item l = l.lists.items ≡ replicate l._item []
