use Rattle.ft_core.specs.walk.Walk.{IsLeast}
use Rattle.ft_core.proofs.walk.least_of.Given as goal

abbrev pub invariant-items : goal.invariant-items
invariant-items l = IsLeast l.fn.least l.result l.items l.item-index
