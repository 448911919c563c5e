-- A search by the cards of a tree is the search by what its names stand for.
use Rattle.std.proofs.Common.{◌≡◌, subst, ℕ, List}
use Rattle.std.specs.Prelude.{Result}
use Rattle.ft_tree.specs.declared.item.Item.{Item}
use Rattle.ft_names.specs.declared.card.Card.{Card}
use Rattle.ft_names.specs.declared.stop.Stop.{Stop}
use Rattle.ft_names.specs.meaning.Cards.{cards_of, under}
use Rattle.ft_names.specs.meaning.First.{Answers, first_of}
use Rattle.ft_names.specs.meaning.Spots.{spots}
use Rattle.ft_measure.specs.declared.slope.Slope.{Slope}
use Rattle.ft_measure.specs.meaning.SlopeFaults.{first_slope, slope_spot}

pub answers-env : {A : Type 0} (result : Result A (Stop Slope)) (cards : List (List ℕ × Card)) (items given : List Item)
    → cards ≡ cards_of items → given ≡ items → Answers result (first_of (slope_spot (under cards)) (spots given))
    → Answers result (first_slope items)
answers-env result cards items given are same found =
    subst (λ (c : List (List ℕ × Card)). Answers result (first_of (slope_spot (under c)) (spots items))) are
    (subst (λ (is : List Item). Answers result (first_of (slope_spot (under cards)) (spots is))) same found)
