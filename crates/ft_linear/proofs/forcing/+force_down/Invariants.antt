use Rattle.std.proofs.Common.{take, drop, map, ◌&&◌, ◌||◌}
use Rattle.std.specs.List.{flat_map, list_any}
use Rattle.ft_linear.specs.meaning.Forced.{node_view}
use Rattle.ft_base.specs.Three.{can_be}
use Rattle.ft_linear.specs.judging.Slots.{value_at, slots_of, StartsWith, Adds}
use Rattle.ft_linear.proofs.forcing.+force_down.Given as goal

-- the slots of this part and those after it are left, and the literals of those before it are added
abbrev pub invariant-force_parts-loop-part : goal.invariant-force_parts-loop-part
invariant-force_parts-loop-part l = StartsWith l.rest (flat_map (slots_of (value_at l.values)) (drop l.part-index l.parts))
    × Adds (λ a s. list_any (λ p. (l.each || can_be l.want p.0) && p.1 l.want a s)
    (map (node_view (value_at l.values)) (take l.part-index l.parts))) l.initial.signs l.signs
