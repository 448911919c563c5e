use Rattle.std.proofs.Common.{◌≡◌, ◌++◌, take}
use Rattle.ft_oblige.specs.meaning.Linked.{marked}
use Rattle.ft_compose.specs.building.Rounds.{claims_in}
use Rattle.ft_compose.proofs.facts.add_marked.Given as goal

abbrev pub invariant-loop-at : goal.invariant-loop-at
invariant-loop-at l = l.claims ≡ l.initial.claims ++ marked (take l.at l.marks) (claims_in (take l.at l.others))
