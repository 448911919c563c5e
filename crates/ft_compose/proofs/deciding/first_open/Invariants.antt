use Rattle.ft_compose.specs.building.Deciding.{AreFactsClosed}
use Rattle.ft_compose.proofs.deciding.first_open.Given as goal

abbrev pub invariant-loop-before : goal.invariant-loop-before
invariant-loop-before l = AreFactsClosed l.tables l.keep l.before l.certs
