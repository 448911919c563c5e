use Rattle.ft_scan.specs.steps.Put.{ArePut}
use Rattle.ft_scan.proofs.places.put_values.Given as goal

abbrev pub invariant-loop-at : goal.invariant-loop-at
invariant-loop-at l = ArePut l.places l.values l.at l.initial.row l.row
