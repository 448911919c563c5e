use Rattle.std.proofs.Common.{arith}
use Rattle.ft_names.specs.meaning.Cards.{under}
use Rattle.ft_build.proofs.ListLemmas.{item-lawful, vars-end, vars-more}
use Rattle.ft_build.proofs.variables.build_vars.Goals as goal

pub add_var-requires-clause-here : goal.add_var-requires-clause-here
add_var-requires-clause-here c = item-lawful c.args.items.now c.loop-item.item-index c.item-item.result c.requires.lawful
    c.loop-item-test.true c.item-item.is

pub loop-item-preserved : goal.loop-item-preserved
loop-item-preserved c = record {
  left = vars-more c.args.items.now c.args.items.now (under c.args.cards.now) _ c.loop-item.vars c.add_var.new.vars
      c.loop-item.places c.after-places.result c.loop-item.item-index c.item-item.result c.loop-item-test.true c.item-item.is
      c.loop-item.invariant.left c.in_ok-add_var.ensures c.after-places.ensures.places;
  few = omega (arith, c.after-places.ensures.total, c.loop-item.invariant.few);
}

pub returns : goal.returns
returns c =
    vars-end c.args.items.now c.args.items.now (under c.args.cards.now) _ c.loop-item.vars c.loop-item.places c.loop-item.item-index
    c.loop-item-test.false c.loop-item.invariant.left
