use Rattle.std.proofs.Common.{None}
use Rattle.ft_core.specs.walk.Walk.{Walks, Advances, left}
use Rattle.ft_core.proofs.walk.Walk.run.Given as goal

abbrev pub invariant-steps : goal.invariant-steps
invariant-steps l = record { walk : Walks l.reads None l.self; advances : Advances l.initial.self l.self }

abbrev pub decreases-steps : goal.decreases-steps
decreases-steps l = left l.reads l.self
