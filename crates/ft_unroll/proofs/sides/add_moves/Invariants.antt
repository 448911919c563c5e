use Rattle.std.proofs.Common.{◌≡◌, ◌++◌, map, slice_get}
use Rattle.std.specs.List.{range_with_len}
use Rattle.ft_claims.specs.meaning.Parts.{move_of}
use Rattle.ft_unroll.proofs.sides.add_moves.Given as goal

abbrev pub invariant-loop-place : goal.invariant-loop-place
invariant-loop-place l = l.parts ≡ l.initial.parts
    ++ map (λ m. move_of l.tables l.frame m (slice_get l.tables.memories m)) (range_with_len 0 l.place)
