use Rattle.ft_compose.specs.building.Checking.{CloseFirst}
use Rattle.ft_compose.proofs.checking.check_first.Given as goal

abbrev pub invariant-loop-before : goal.invariant-loop-before
invariant-loop-before l = CloseFirst l.tables l.before l.certs
