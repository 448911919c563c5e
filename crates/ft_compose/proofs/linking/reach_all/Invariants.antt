use Rattle.std.proofs.Common.{◌≡◌, take}
use Rattle.ft_claims.specs.meaning.Areas.{with_marks}
use Rattle.ft_compose.proofs.linking.reach_all.Given as goal

abbrev pub invariant-loop-name : goal.invariant-loop-name
invariant-loop-name l = l.reached ≡ with_marks l.initial.reached (take l.name-index l.names)
