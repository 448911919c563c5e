use Rattle.ft_names.specs.meaning.Cards.{under}
use Rattle.ft_build.specs.meaning.Blocks.{build_block}
use Rattle.ft_build.proofs.ListLemmas.{flat-more}
use Rattle.ft_build.proofs.blocks.build_blocks.Goals as goal

pub loop-item-preserved : goal.loop-item-preserved
loop-item-preserved c = flat-more (build_block (under c.args.cards.now)) c.args.items.now c.loop-item.item-index
    c.item-item.result c.loop-item.blocks c.add_block.new.blocks c.loop-item-test.true c.item-item.is c.loop-item.invariant
    c.in_ok-add_block.ensures
