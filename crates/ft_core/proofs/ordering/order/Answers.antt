use Rattle.ft_core.proofs.OrderLaws.{gives-rank, ordered-acyclic}
use Rattle.ft_core.proofs.WalkSteps.{is-order, first-circle}
use Rattle.ft_core.proofs.ordering.order.Goals as goal

pub returns-in-None-clause-ordered : goal.returns-in-None-clause-ordered
returns-in-None-clause-ordered c = is-order c.args.reads.now c.in_ok-walk.walk c.in_ok-walk.ensures.walk c.in_ok-walk.ensures.all
    c.in-None.is

pub returns-in-None-clause-ranked : goal.returns-in-None-clause-ranked
returns-in-None-clause-ranked c =
    gives-rank c.args.reads.now c.in_ok-walk.walk.order (is-order c.args.reads.now c.in_ok-walk.walk c.in_ok-walk.ensures.walk
    c.in_ok-walk.ensures.all c.in-None.is)

pub returns-in-None-clause-acyclic : goal.returns-in-None-clause-acyclic
returns-in-None-clause-acyclic c =
    ordered-acyclic c.args.reads.now c.in_ok-walk.walk.order (is-order c.args.reads.now c.in_ok-walk.walk c.in_ok-walk.ensures.walk
    c.in_ok-walk.ensures.all c.in-None.is)

pub returns-in_ok-items-in-Some-clause-circle : goal.returns-in_ok-items-in-Some-clause-circle
returns-in_ok-items-in-Some-clause-circle c =
    first-circle c.args.reads.now c.in_ok-walk.walk c.in_ok-walk.ensures.walk c.in_ok-walk.ensures.all c.in-Some.least c.in-Some.is
    c.in_ok-items-in-Some.items
    c.in_ok-items-in-Some.ensures.circle c.in_ok-items-in-Some.ensures.start
