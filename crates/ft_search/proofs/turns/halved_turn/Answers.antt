use Rattle.std.proofs.Common.{◌∙◌, sym}
use Rattle.ft_search.proofs.TurnLemmas.{tight-turn}
use Rattle.ft_search.proofs.turns.halved_turn.Goals as goal

pub returns-clause-turn : goal.returns-clause-turn
returns-clause-turn c enough halved =
    tight-turn c.args.formula.now c.args.part.now enough halved c.args.single c.tight_turn.result c.requires.tightens c.tight_turn.ensures.node
    c.tight_turn.ensures.step (c.tight_turn.ensures.halves ∙ sym c.requires.half)
