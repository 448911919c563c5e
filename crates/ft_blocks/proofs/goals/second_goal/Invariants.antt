use Rattle.std.proofs.Common.{take}
use Rattle.ft_core.specs.checked.Distinct.{AreDistinct}
use Rattle.ft_blocks.proofs.goals.second_goal.Given as goal

abbrev pub invariant-loop-at : goal.invariant-loop-at
invariant-loop-at l = AreDistinct (take l.at l.goals)
