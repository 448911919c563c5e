use Rattle.std.proofs.Common.{◌≡◌, ◌∙◌, ◌++◌, ◌∷◌, [], sym, ap, List, append_assoc, length, arith}
use Rattle.ft_names.specs.declared.card.Card.{Card}
use Rattle.ft_names.specs.declared.card.Card.TheVariants.{Member}
use Rattle.ft_names.proofs.CardLemmas.{member_cards, members-all, members-next}
use Rattle.ft_names.proofs.carding.add_members.Goals as goal

pub loop-position-preserved : goal.loop-position-preserved
loop-position-preserved c =
    let i = c.loop-position.position in
    c.in_ok-push.ensures.ok
    ∙ ap (λ (list : List Card). list ++ Member c.args.item i ∷ []) c.loop-position.invariant
    ∙ append_assoc c.args.list.now (member_cards c.args.item c.args.members.now i) (Member c.args.item i ∷ [])
    ∙ ap (λ (list : List Card). c.args.list.now ++ list) (sym (members-next c.args.item c.args.members.now i c.loop-position-test.true))

pub returns : goal.returns
returns c =
    let end : c.loop-position.position ≡ length c.args.members.now = omega
    (arith, c.loop-position-test.false, c.loop-position.auto.position-end) in
    c.loop-position.invariant
    ∙ ap (λ (list : List Card). c.args.list.now ++ list)
    (ap (member_cards c.args.item c.args.members.now) end ∙ members-all c.args.item c.args.members.now)
