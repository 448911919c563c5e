use Rattle.std.proofs.Common.{◌≡◌, filter}
use Rattle.std.specs.List.{range_with_len}
use Rattle.ft_core.specs.meaning.Kinds.{defined_kinds, is_of}
use Rattle.ft_unroll.proofs.defining.defined_places.Given as goal

abbrev pub invariant-loop-place : goal.invariant-loop-place
invariant-loop-place l = l.places ≡ filter (is_of l.tables.vars (defined_kinds l.section)) (range_with_len 0 l.place)
