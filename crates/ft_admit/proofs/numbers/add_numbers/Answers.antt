use Rattle.std.proofs.Common.{◌++◌}
use Rattle.ft_admit.specs.meaning.Cycles.{numbers_from}
use Rattle.ft_admit.specs.stages.Sorts.{declares}
use Rattle.ft_admit.proofs.NumberingLemmas.{after-low, numbers-end, numbers-more}
use Rattle.ft_admit.proofs.numbers.add_numbers.Goals as goal

pub loop-item-preserved : goal.loop-item-preserved
loop-item-preserved c = record {
  left = numbers-more (declares c.args.sort) (c.args.numbers.now ++ numbers_from (declares c.args.sort) 0 c.args.items.now)
      c.loop-item.numbers c.add_number.new.numbers c.loop-item.number c.number_after-number.result c.args.items.now c.loop-item.item-index
      c.item-item.result c.loop-item-test.true c.item-item.is c.loop-item.invariant.left c.in_ok-add_number.ensures
      c.number_after-number.ensures;
  low = after-low c.loop-item.number c.number_after-number.result c.loop-item.item-index c.item-item.result c.loop-item.invariant.low
      c.number_after-number.ensures;
}

pub returns : goal.returns
returns c = numbers-end (declares c.args.sort) (c.args.numbers.now ++ numbers_from (declares c.args.sort) 0 c.args.items.now)
    c.loop-item.numbers c.loop-item.number c.args.items.now c.loop-item.item-index c.loop-item-test.false c.loop-item.invariant.left
