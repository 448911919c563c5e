use Rattle.std.proofs.Common.{◌≡◌, IfOk, subst, ℕ, List}
use Rattle.ft_names.specs.declared.card.Card.{Card}
use Rattle.ft_names.specs.meaning.Cards.{under}
use Rattle.ft_build.specs.meaning.Sets.{set_in}
use Rattle.ft_build.proofs.parts.build_set.Goals as goal

pub returns : goal.returns
returns c =
    let tree = c.args.tree.now in
    subst (λ (cards : List (List ℕ × Card)). IfOk c.build_parts.result (λ parts. parts ≡ set_in (under cards) tree.name tree.period
    tree.splits tree.depth tree.items)) c.requires.cards c.build_parts.ensures
