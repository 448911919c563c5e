use Rattle.ft_blocks.proofs.FaultLemmas.{twice-named}
use Rattle.ft_blocks.proofs.goals.differ.Goals as goal

pub returns-in_ok-name_of-in-Some-clause-twice : goal.returns-in_ok-name_of-in-Some-clause-twice
returns-in_ok-name_of-in-Some-clause-twice c = twice-named c.args.vars.now c.args.goals.now c.in-Some.at
    c.in_ok-name_of-in-Some.field-0 c.in-Some.ensures c.in_ok-name_of-in-Some.ensures
