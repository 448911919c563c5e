use Rattle.ft_names.specs.meaning.Cards.{under}
use Rattle.ft_build.specs.meaning.Tables.{build_table}
use Rattle.ft_build.proofs.ListLemmas.{flat-more}
use Rattle.ft_build.proofs.tables.build_tables.Goals as goal

pub loop-item-preserved : goal.loop-item-preserved
loop-item-preserved c = flat-more (build_table (under c.args.cards.now)) c.args.items.now c.loop-item.item-index
    c.item-item.result c.loop-item.tables c.add_table.new.tables c.loop-item-test.true c.item-item.is c.loop-item.invariant
    c.in_ok-add_table.ensures
