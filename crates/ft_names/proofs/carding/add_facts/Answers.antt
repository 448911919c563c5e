use Rattle.std.proofs.Common.{◌≡◌, ◌∙◌, ◌++◌, sym, ap, List, append_assoc, length, arith}
use Rattle.ft_names.specs.declared.card.Card.{Card}
use Rattle.ft_names.specs.meaning.Cards.{fact_cards}
use Rattle.ft_names.specs.naming.Counting.{cards_in}
use Rattle.ft_names.proofs.CardLemmas.{facts-all, facts-next, invariant_cards}
use Rattle.ft_names.proofs.carding.add_facts.Goals as goal

pub loop-position-preserved : goal.loop-position-preserved
loop-position-preserved c =
    let i = c.loop-position.position in
    let here = cards_in (fact_cards c.args.block (i, c.index-facts-position.result)) in
    c.in_ok-add_fact.ensures
    ∙ ap (λ (list : List Card). list ++ here) c.loop-position.invariant
    ∙ append_assoc c.args.list.now (invariant_cards c.args.block c.args.facts.now i) here
    ∙ ap (λ (list : List Card). c.args.list.now ++ list)
    (sym (facts-next c.args.block c.args.facts.now i c.index-facts-position.result c.loop-position-test.true c.index-facts-position.is))

pub returns : goal.returns
returns c =
    let end : c.loop-position.position ≡ length c.args.facts.now = omega
    (arith, c.loop-position-test.false, c.loop-position.auto.position-end) in
    c.loop-position.invariant
    ∙ ap (λ (list : List Card). c.args.list.now ++ list)
    (ap (invariant_cards c.args.block c.args.facts.now) end ∙ facts-all c.args.block c.args.facts.now)
