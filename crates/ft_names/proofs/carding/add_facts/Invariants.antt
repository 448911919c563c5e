use Rattle.std.proofs.Common.{◌≡◌, ◌++◌}
use Rattle.ft_names.proofs.CardLemmas.{invariant_cards}
use Rattle.ft_names.proofs.carding.add_facts.Given as goal

abbrev pub invariant-loop-position : goal.invariant-loop-position
invariant-loop-position l = l.list ≡ l.initial.list ++ invariant_cards l.block l.facts l.position
