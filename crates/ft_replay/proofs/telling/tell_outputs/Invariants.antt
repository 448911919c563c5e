use Rattle.ft_core.specs.declared.tables.Side.TheVariants as side
use Rattle.ft_replay.proofs.RowLemmas.{ArePutOut, IsPlace}
use Rattle.ft_replay.proofs.telling.tell_outputs.Given as goal

abbrev pub invariant-vars : goal.invariant-vars
invariant-vars l = record {
  place : IsPlace l.tables side.Sof l.variable l.at;
  put : ArePutOut l.tables l.design l.variable l.initial.row l.row;
}
