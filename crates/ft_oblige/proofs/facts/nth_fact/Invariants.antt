use Rattle.ft_oblige.proofs.NthLemmas.{IsLeft}
use Rattle.ft_oblige.proofs.facts.nth_fact.Given as goal

abbrev pub invariant-loop-at : goal.invariant-loop-at
invariant-loop-at l = IsLeft l.blocks l.nth l.at l.left
