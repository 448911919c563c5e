use Rattle.std.proofs.Common.{◌≡◌, filter, length, take}
use Rattle.std.specs.List.{range_with_len}
use Rattle.ft_core.specs.meaning.Kinds.{inputs, is_of}
use Rattle.ft_compose.proofs.others.input_places.Given as goal

abbrev pub invariant-loop-place : goal.invariant-loop-place
invariant-loop-place l = l.places ≡ filter (is_of l.tables.vars inputs) (take l.place (range_with_len 0 (length l.tables.vars)))
