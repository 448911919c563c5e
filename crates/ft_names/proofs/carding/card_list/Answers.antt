use Rattle.std.proofs.Common.{◌∙◌, ◌++◌, sym, ap, refl, List}
use Rattle.ft_names.specs.declared.card.Card.{Card}
use Rattle.ft_names.specs.meaning.Cards.{item_cards}
use Rattle.ft_names.specs.naming.Counting.{cards_in}
use Rattle.ft_names.proofs.CardLemmas.{cards-next, counted-next, no-cards}
use Rattle.ft_names.proofs.carding.card_list.Goals as goal

pub loop-number-init : goal.loop-number-init
loop-number-init c = record { made = c.new-list.ensures ∙ sym (ap cards_in (no-cards c.args.items.now)); counted = refl }

pub loop-number-preserved : goal.loop-number-preserved
loop-number-preserved c =
    let i = c.loop-number.number in
    record {
      made = c.in_ok-add_item.ensures
          ∙ ap (λ (list : List Card). list ++ cards_in (item_cards c.args.items.now i c.index-items-number.result))
          c.loop-number.invariant.made
          ∙ sym (cards-next c.args.items.now i c.index-items-number.result c.loop-number-test.true c.index-items-number.is);
      counted = counted-next c.args.items.now i c.index-items-number.result c.loop-number.counts c.after-counts.result
          c.loop-number-test.true
          c.index-items-number.is c.loop-number.invariant.counted c.after-counts.ensures;
    }
