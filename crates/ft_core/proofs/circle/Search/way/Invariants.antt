use Rattle.ft_core.specs.walk.Circles.{IsWayBack}
use Rattle.ft_core.proofs.circle.Search.way.Given as goal

-- the items up to here lead to the end
abbrev pub invariant-back : goal.invariant-back
invariant-back l = IsWayBack l.reads l.self.met l.end l.at l.items.items

-- a parent stands before
abbrev pub decreases-back : goal.decreases-back
decreases-back l = l.at
