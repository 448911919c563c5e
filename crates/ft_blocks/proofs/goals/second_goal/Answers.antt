use Rattle.ft_blocks.proofs.GoalLemmas.{all-once, take-once}
use Rattle.ft_blocks.proofs.goals.second_goal.Goals as goal

pub returns-then-stands_before : goal.returns-then-stands_before
returns-then-stands_before c = record {
  there = c.loop-at-test.true;
  earlier = c.stands_before.ensures.yes c.if-stands_before.true;
  first = c.loop-at.invariant;
}

pub loop-at-preserved : goal.loop-at-preserved
loop-at-preserved c = take-once c.args.goals.now c.loop-at.at c.loop-at-test.true c.loop-at.invariant
    (c.stands_before.ensures.no c.if-stands_before.false)

pub returns : goal.returns
returns c = all-once c.args.goals.now c.loop-at.at c.loop-at-test.false c.loop-at.invariant
