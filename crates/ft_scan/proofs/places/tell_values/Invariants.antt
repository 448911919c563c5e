use Rattle.ft_scan.specs.steps.Put.{AreTold}
use Rattle.ft_scan.proofs.places.tell_values.Given as goal

abbrev pub invariant-loop-at : goal.invariant-loop-at
invariant-loop-at l = AreTold l.places l.row l.at l.values
