use Rattle.ft_compose.proofs.LinkLemmas.{IsUntil}
use Rattle.ft_compose.proofs.linking.round.Given as goal

abbrev pub invariant-loop-at : goal.invariant-loop-at
invariant-loop-at l = IsUntil l.others l.at l.initial.links l.links l.grew
