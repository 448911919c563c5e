use Rattle.std.proofs.Common.{◌≡◌, ◌++◌}
use Rattle.ft_names.proofs.CardLemmas.{member_cards}
use Rattle.ft_names.proofs.carding.add_members.Given as goal

abbrev pub invariant-loop-position : goal.invariant-loop-position
invariant-loop-position l = l.list ≡ l.initial.list ++ member_cards l.item l.members l.position
