use Rattle.std.proofs.Common.{◌≡◌, ◌∷◌}
use Rattle.std.specs.List.{flat_map, range_with_len}
use Rattle.ft_gen.specs.building.Items.{items_for, switch_type}
use Rattle.ft_gen.proofs.generating.items.Given as goal

abbrev pub invariant-loop-count : goal.invariant-loop-count
invariant-loop-count l = l.items ≡ switch_type ∷ flat_map items_for (range_with_len 1 l.count)
