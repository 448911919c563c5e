use Rattle.std.proofs.Common.{◌≡◌, filter, false, length, take}
use Rattle.std.specs.Prelude.{slice_index_or}
use Rattle.std.specs.List.{range_with_len}
use Rattle.ft_claims.proofs.placing.marked_places.Given as goal

abbrev pub invariant-loop-at : goal.invariant-loop-at
invariant-loop-at l = l.places ≡ filter (λ u. slice_index_or l.marks u false) (take l.at (range_with_len 0 (length l.marks)))
