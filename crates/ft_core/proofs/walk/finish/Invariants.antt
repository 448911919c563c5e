use Rattle.std.proofs.Common.{take}
use Rattle.ft_core.specs.walk.Walk.{Finishes}
use Rattle.ft_core.proofs.walk.finish.Given as goal

-- the items before this one are in the order
abbrev pub invariant-items : goal.invariant-items
invariant-items l = Finishes (take l.item-index l.items) l.initial.stages l.stages l.initial.order l.order
