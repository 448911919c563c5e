use Rattle.ft_compose.proofs.LinkLemmas.{IsAfter}
use Rattle.ft_compose.proofs.linking.settle.Given as goal

abbrev pub invariant-loop : goal.invariant-loop
invariant-loop l = IsAfter l.others l.counter l.initial.links l.links
