use Rattle.ft_unroll.specs.building.Telling.{AreRows}
use Rattle.ft_unroll.proofs.telling.history_of.Given as goal

abbrev pub invariant-loop-scan : goal.invariant-loop-scan
invariant-loop-scan l = AreRows l.tables l.names l.values l.scan l.history
