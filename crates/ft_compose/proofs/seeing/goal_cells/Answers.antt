use Rattle.ft_compose.proofs.FailLemmas.{required}
use Rattle.ft_compose.proofs.seeing.goal_cells.Goals as goal

pub first_seen-requires-clause-there : goal.first_seen-requires-clause-there
first_seen-requires-clause-there c =
    (c.requires.there.0, (c.requires.there.1.0, required c.args.variable c.requires.there.0 c.requires.there.1.1))

pub returns-clause-req : goal.returns-clause-req
returns-clause-req c = c.in_ok-req.ensures

pub returns-clause-out : goal.returns-clause-out
returns-clause-out c = c.in_ok-out.ensures
