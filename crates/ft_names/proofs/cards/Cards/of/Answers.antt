use Rattle.std.proofs.Common.{◌∙◌, ap, List}
use Rattle.ft_tree.specs.declared.item.Item.{Item}
use Rattle.ft_names.specs.meaning.Cards.{cards_of}
use Rattle.ft_names.specs.naming.Counting.{cards_in}
use Rattle.ft_names.proofs.CardLemmas.{carded-items, carded-length}
use Rattle.ft_names.proofs.RoomLemmas.{few-items}
use Rattle.ft_names.proofs.cards.Cards.of.Goals as goal

pub card_list-requires-clause-few : goal.card_list-requires-clause-few
card_list-requires-clause-few c = rw c.as_slice.ensures (few-items c.args.tree.now)

pub invariant_of-result : goal.invariant_of-result
invariant_of-result c =
    carded-length c.args.tree.now.items c.args.names c.in_ok-list.list c.requires (c.in_ok-list.ensures
    ∙ ap (λ (items : List Item). cards_in (cards_of items)) c.as_slice.ensures)

pub returns : goal.returns
returns c =
    carded-items c.args.tree.now.items c.args.names c.in_ok-list.list c.requires (c.in_ok-list.ensures
    ∙ ap (λ (items : List Item). cards_in (cards_of items)) c.as_slice.ensures)
