use Rattle.std.proofs.Common.{◌∙◌, sym}
use Rattle.std.proofs.Common.{not}
use Rattle.ft_search.proofs.turns.maybe_choice.Goals as goal

pub returns-then-not-allowed-clause-choice : goal.returns-then-not-allowed-clause-choice
returns-then-not-allowed-clause-choice c enough halved so =
    c.plain_choice.ensures.choice enough halved
    (λ below. let is = so below in let bad : ⊥ = cc (sym c.if-not-allowed.true ∙ (λ i. not (is i))) in absurd bad)

pub returns-in-Some-clause-choice : goal.returns-in-Some-clause-choice
returns-in-Some-clause-choice c enough halved so = c.halved_turn.ensures.turn enough halved

pub returns-in-None-clause-choice : goal.returns-in-None-clause-choice
returns-in-None-clause-choice c enough halved so = c.plain_choice-in-None.ensures.choice enough halved (λ below. c.in-None.ensures.none)
