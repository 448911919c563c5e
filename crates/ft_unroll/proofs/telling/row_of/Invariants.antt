use Rattle.ft_unroll.specs.building.Telling.{IsRowBefore}
use Rattle.ft_unroll.proofs.telling.row_of.Given as goal

abbrev pub invariant-loop-variable : goal.invariant-loop-variable
invariant-loop-variable l = IsRowBefore l.tables l.names l.values l.base l.variable l.row
