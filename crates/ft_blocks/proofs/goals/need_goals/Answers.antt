use Rattle.ft_blocks.proofs.FaultLemmas.{missing-named}
use Rattle.ft_blocks.proofs.goals.need_goals.Goals as goal

pub returns-in_ok-name_of-in-Some-clause-missing : goal.returns-in_ok-name_of-in-Some-clause-missing
returns-in_ok-name_of-in-Some-clause-missing c = missing-named c.args.vars.now c.args.goals.now c.in-Some.place
    c.in_ok-name_of-in-Some.field-0 c.in-Some.ensures c.in_ok-name_of-in-Some.ensures
