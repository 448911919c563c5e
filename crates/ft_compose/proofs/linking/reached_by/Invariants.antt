use Rattle.std.proofs.Common.{◌≡◌, false, length, replicate, take}
use Rattle.std.specs.List.{flat_map}
use Rattle.ft_claims.specs.meaning.Areas.{with_marks}
use Rattle.ft_oblige.specs.meaning.Linked.{names_in}
use Rattle.ft_compose.proofs.linking.reached_by.Given as goal

abbrev pub invariant-loop-claim : goal.invariant-loop-claim
invariant-loop-claim l = l.reached
    ≡ with_marks (replicate (length l.spans) false) (flat_map (names_in (length l.spans)) (take l.claim-index l.own))
