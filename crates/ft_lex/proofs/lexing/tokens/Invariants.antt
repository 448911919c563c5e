use Rattle.std.proofs.Common.{◌≡◌, ◌-◌, ◌≤◌, length, take}
use Rattle.ft_lex.specs.meaning.Place.{place_after}
use Rattle.ft_lex.proofs.TokenLemmas.{IsReadTo}
use Rattle.ft_lex.proofs.lexing.tokens.Given as goal

abbrev pub invariant-loop-list : goal.invariant-loop-list
invariant-loop-list l = record {
  within : l.from ≤ length l.text;
  place : l.place ≡ place_after (take l.from l.text);
  read : IsReadTo l.text l.from l.list;
}

abbrev pub decreases-loop-list : goal.decreases-loop-list
decreases-loop-list l = length l.text - l.from
