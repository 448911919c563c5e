use Rattle.std.proofs.Common.{◌≡◌, take}
use Rattle.ft_lex.specs.meaning.Place.{place_after}
use Rattle.ft_lex.proofs.places.place_at.Given as goal

abbrev pub invariant-loop-at : goal.invariant-loop-at
invariant-loop-at l = l.place ≡ place_after (take l.at l.text)
