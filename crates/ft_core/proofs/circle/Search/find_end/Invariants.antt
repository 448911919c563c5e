use Rattle.std.proofs.Common.{◌+◌, ◌-◌, ◌≤◌, length}
use Rattle.ft_core.specs.walk.Circles.{Searches, AreRead, unseen}
use Rattle.ft_core.proofs.circle.Search.find_end.Given as goal

-- what the items before this place read was met
abbrev pub invariant-places : goal.invariant-places
invariant-places l = record {
  search : Searches l.reads l.start l.self;
  read : AreRead l.reads l.start l.self.met l.at;
  place : l.at ≤ length l.self.met;
}

-- what is met and not followed, and what is not met
abbrev pub decreases-places : goal.decreases-places
decreases-places l = length l.self.met + unseen l.self.seen - l.at
