use Rattle.std.proofs.Common.{◌≡◌, length, map, take}
use Rattle.ft_compose.specs.meaning.Shared.{part_of}
use Rattle.ft_compose.proofs.part.parts_of.Given as goal

abbrev pub invariant-loop-claim : goal.invariant-loop-claim
invariant-loop-claim l = l.parts ≡ map (part_of (length l.spans)) (take l.claim-index l.claims)
