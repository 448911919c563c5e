use Rattle.std.proofs.Common.{refl}
use Rattle.std.specs.Prelude.{map, string_bytes}
use Rattle.ft_cli.specs.stages.Command.{asked_by}
use Rattle.ft_cli.proofs.FittingLemmas.{outcome-fits}
use Rattle.ft_cli.proofs.TopLemmas.{known-by, numbered-by, others-by, outcome-by, usage-by}
use Rattle.ft_cli.proofs.top.report_on.Goals as goal

pub report_by-requires-clause-known : goal.report_by-requires-clause-known
report_by-requires-clause-known g c = known-by asked_by _ _ _ c.command_of.ensures c.in-Some.is _ c.requires

pub report_by-requires-clause-number : goal.report_by-requires-clause-number
report_by-requires-clause-number g c = numbered-by asked_by _ _ (map string_bytes c.args.words.now) c.command_of.ensures c.in-Some.is

pub returns-in-Some-clause-fitting : goal.returns-in-Some-clause-fitting
returns-in-Some-clause-fitting g c = outcome-fits _ _ _ c.report_by.ensures.outcome

pub returns-in-Some-clause-outcome : goal.returns-in-Some-clause-outcome
returns-in-Some-clause-outcome g c = outcome-by asked_by _ _ _ c.command_of.ensures c.in-Some.is _ _ c.report_by.ensures.outcome

pub returns-in-Some-clause-others : goal.returns-in-Some-clause-others
returns-in-Some-clause-others g c = others-by asked_by _ _ _ c.command_of.ensures c.in-Some.is _ _ _ _ _ _ c.report_by.ensures.others

pub returns-in-None-clause-outcome : goal.returns-in-None-clause-outcome
returns-in-None-clause-outcome g c = usage-by asked_by _ _ _ _ c.command_of.ensures c.in-None.is refl
