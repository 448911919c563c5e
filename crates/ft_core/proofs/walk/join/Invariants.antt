use Rattle.std.proofs.Common.{length}
use Rattle.ft_core.specs.walk.Walk.{Joins}
use Rattle.ft_core.proofs.walk.join.Given as goal

abbrev pub invariant-components : goal.invariant-components
invariant-components l = Joins l.at l.initial.components l.components

abbrev pub decreases-components : goal.decreases-components
decreases-components l = length l.components
