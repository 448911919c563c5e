-- A test by the cards of a tree is the test by what its names stand for.
use Rattle.std.proofs.Common.{◌≡◌, subst, ℕ, List, Option}
use Rattle.std.specs.Prelude.{Result}
use Rattle.ft_tree.specs.declared.item.Item.{Item}
use Rattle.ft_names.specs.declared.card.Card.{Card}
use Rattle.ft_names.specs.declared.stop.Stop.{Stop}
use Rattle.ft_names.specs.meaning.Cards.{Env, cards_of, env_of, under}
use Rattle.ft_names.specs.meaning.First.{Answers, first_of}
use Rattle.ft_names.specs.meaning.Spots.{Spot, spots}

pub answers-env : {A F : Type 0} (result : Result A (Stop F)) (test : Env → Spot
    → Option F) (cards : List (List ℕ × Card)) (items given : List Item)
    → cards ≡ cards_of items → given ≡ items → Answers result (first_of (test (under cards)) (spots given))
    → Answers result (first_of (test (env_of items)) (spots items))
answers-env result test cards items given are same found =
    subst (λ (c : List (List ℕ × Card)). Answers result (first_of (test (under c)) (spots items))) are
    (subst (λ (is : List Item). Answers result (first_of (test (under cards)) (spots is))) same found)
