-- What the cards beside the map of the names stand for.
use Rattle.std.specs.Prelude.{◌≡◌, ℕ, List, length}
use Rattle.std.specs.List.{zip}
use Rattle.ft_names.specs.meaning.Declared.{names_in}
use Rattle.ft_names.specs.declared.card.Card.{Card}
use Rattle.ft_names.specs.declared.cards.Cards.TheInside.{Inside}

-- each name with the card at its place
abbrev pub carded : Inside → List (List ℕ × Card)
carded c = zip (names_in c.names) c.list

abbrev pub AreMatched : Inside → Type 0
AreMatched c = length c.list ≡ length c.names
