use borrow.Author.Count.{below_more}
use Rattle.std.proofs.Common.{arith, ℕ, IsTrue}
use Rattle.std.specs.List.{Contains}
use Rattle.ft_core.specs.meaning.Kinds.{controlled, is_of}
use Rattle.ft_blocks.proofs.goals.missing_goal.Goals as goal

pub returns-then-lacks_goal : goal.returns-then-lacks_goal
returns-then-lacks_goal c = record {
  there = c.loop-place-test.true;
  is_controlled = c.lacks_goal.ensures.controlled c.if-lacks_goal.true;
  missing = c.lacks_goal.ensures.missing c.if-lacks_goal.true;
  before = c.loop-place.invariant;
}

pub loop-place-preserved : goal.loop-place-preserved
loop-place-preserved c = below_more
    (λ (x : ℕ). IsTrue (is_of c.args.vars.now controlled x) → Contains c.args.goals.now x) c.loop-place.place c.loop-place.invariant
    (c.lacks_goal.ensures.has c.if-lacks_goal.false)

pub returns : goal.returns
returns c = λ x low. c.loop-place.invariant x (let past = c.loop-place-test.false in omega (arith, low, past))
