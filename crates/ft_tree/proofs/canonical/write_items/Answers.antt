use Rattle.ft_tree.specs.meaning.Lines.{item_lines}
use Rattle.ft_tree.proofs.WritingLemmas.{groups-more}
use Rattle.ft_tree.proofs.canonical.write_items.Goals as goal

pub loop-item-preserved : goal.loop-item-preserved
loop-item-preserved c =
    groups-more item_lines c.args.writer.now c.loop-item.writer c.write_item.new.writer c.args.items.now c.loop-item.item-index
    c.item-item.result
    c.loop-item-test.true c.item-item.is c.loop-item.invariant c.in_ok-write_item.ensures
