use Rattle.ft_core.specs.declared.tables.Side.TheVariants as side
use Rattle.ft_replay.proofs.RowLemmas.{AreAlike, IsPlace}
use Rattle.ft_replay.proofs.comparing.are_alike.Given as goal

abbrev pub invariant-vars : goal.invariant-vars
invariant-vars l = record {
  place : IsPlace l.tables side.Req l.variable l.at;
  alike : AreAlike l.tables l.required l.row l.variable;
}
