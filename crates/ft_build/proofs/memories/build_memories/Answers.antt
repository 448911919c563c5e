use Rattle.ft_names.specs.meaning.Cards.{under}
use Rattle.ft_build.specs.meaning.Tables.{build_memory}
use Rattle.ft_build.proofs.ListLemmas.{flat-more, item-lawful}
use Rattle.ft_build.proofs.memories.build_memories.Goals as goal

pub add_memory-requires-clause-here : goal.add_memory-requires-clause-here
add_memory-requires-clause-here c = item-lawful c.args.items.now c.loop-item.item-index c.item-item.result c.requires.lawful
    c.loop-item-test.true c.item-item.is

pub loop-item-preserved : goal.loop-item-preserved
loop-item-preserved c = flat-more (build_memory c.args.items.now (under c.args.cards.now)) c.args.items.now c.loop-item.item-index
    c.item-item.result c.loop-item.memories c.add_memory.new.memories c.loop-item-test.true c.item-item.is c.loop-item.invariant
    c.in_ok-add_memory.ensures
