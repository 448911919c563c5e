use Rattle.std.proofs.lemmas.Result.{err_from_is_err_and}
use Rattle.ft_blocks.proofs.FaultLemmas.{from-goals, from-order, memory-only}
use Rattle.ft_blocks.proofs.GoalLemmas.{has-goals}
use Rattle.ft_blocks.proofs.linking.graph.Goals as goal

pub returns-in_err-order-clause-fault : goal.returns-in_err-order-clause-fault
returns-in_err-order-clause-fault c =
    let p = err_from_is_err_and c.from_residual.result c.from_residual.ensures.1 in
    rw (p.1, p.2)
    (from-order c.args.tables.now.vars c.args.tables.now.blocks c.in_err-order.field-0.0 c.in_err-order.ensures.cycle)

pub returns-in_err-order-clause-only : goal.returns-in_err-order-clause-only
returns-in_err-order-clause-only c = λ no_fault.
    let p = err_from_is_err_and c.from_residual.result c.from_residual.ensures.1 in
    rw (p.1, p.2)
    (memory-only c.args.tables.now.vars c.args.tables.now.blocks c.in_err-order.field-0.0 no_fault
    (from-order c.args.tables.now.vars c.args.tables.now.blocks c.in_err-order.field-0.0 c.in_err-order.ensures.cycle))

pub returns-in_err-judge_goals-clause-fault : goal.returns-in_err-judge_goals-clause-fault
returns-in_err-judge_goals-clause-fault c =
    let p = err_from_is_err_and c.from_residual-in_err-judge_goals.result c.from_residual-in_err-judge_goals.ensures.1 in
    rw (p.1, p.2)
    (from-goals c.args.tables.now.vars c.args.tables.now.blocks c.in_err-judge_goals.field-0.0 c.in_ok-order.ensures.none
    c.in_err-judge_goals.ensures.fault)

pub returns-in_err-judge_goals-clause-only : goal.returns-in_err-judge_goals-clause-only
returns-in_err-judge_goals-clause-only c = λ no_fault.
    let p = err_from_is_err_and c.from_residual-in_err-judge_goals.result c.from_residual-in_err-judge_goals.ensures.1 in
    rw (p.1, p.2)
    (memory-only c.args.tables.now.vars c.args.tables.now.blocks c.in_err-judge_goals.field-0.0 no_fault
    (from-goals c.args.tables.now.vars c.args.tables.now.blocks c.in_err-judge_goals.field-0.0 c.in_ok-order.ensures.none
    c.in_err-judge_goals.ensures.fault))

pub returns : goal.returns
returns c = record {
  order = c.in_ok-order.ensures.order;
  goals = has-goals c.args.tables.now.vars c.args.tables.now.blocks c.in_ok-judge_goals.ensures.every c.in_ok-judge_goals.ensures.once;
  no_fault = record {
    no_cycle = c.in_ok-order.ensures.none;
    every = c.in_ok-judge_goals.ensures.every;
    once = c.in_ok-judge_goals.ensures.once;
  };
  fault = tt;
  only = λ _. tt;
}
