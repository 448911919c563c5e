use Rattle.std.proofs.Common.{take}
use Rattle.ft_types.specs.meaning.Targets.{item_targets, targets}
use Rattle.ft_names.specs.laws.Lists.{flat_next}
use Rattle.ft_types.proofs.GatherLemmas.{few-more, gathers-more, item-lawful}
use Rattle.ft_types.proofs.gathering.gather_items.Goals as goal

pub gather_item-requires-clause-lawful : goal.gather_item-requires-clause-lawful
gather_item-requires-clause-lawful c = item-lawful c.args.items.now c.loop-item.item-index c.item-item.result c.requires.lawful
    c.loop-item-test.true c.item-item.is

pub loop-item-preserved : goal.loop-item-preserved
loop-item-preserved c = record {
  gathers = gathers-more c.args.titles.now c.loop-item.titles c.gather_item.new.titles c.args.second.now c.loop-item.second
      c.gather_item.new.second
      (targets (take c.loop-item.item-index c.args.items.now)) (item_targets c.item-item.result) _
      (flat_next item_targets c.args.items.now c.loop-item.item-index c.item-item.result c.loop-item-test.true c.item-item.is)
      c.loop-item.invariant.gathers c.in_ok-gather_item.ensures.gathers;
  few = few-more c.args.titles.now c.loop-item.titles c.gather_item.new.titles c.loop-item.item-index c.loop-item.invariant.few
      c.in_ok-gather_item.ensures.few;
}
