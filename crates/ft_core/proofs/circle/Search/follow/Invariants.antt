use Rattle.ft_core.specs.walk.Circles.{AreFollowed}
use Rattle.ft_core.proofs.circle.Search.follow.Given as goal

-- the reads before this one were met
abbrev pub invariant-reads : goal.invariant-reads
invariant-reads l = AreFollowed l.reads l.start l.read-items l.read-index l.initial.self l.self
