use Rattle.std.proofs.Common.{◌≡◌, take, map, length}
use Rattle.std.specs.Prelude.{count_by}
use Rattle.std.specs.List.{flat_map}
use Rattle.ft_linear.specs.meaning.Forced.{value_of}
use Rattle.ft_base.specs.Three.{is_no, is_yes}
use Rattle.ft_linear.specs.judging.Slots.{value_at, slots_of, IsWritten}
use Rattle.ft_linear.proofs.forcing.+evaluate_up.Given as goal

-- the parts before this one have their slots
abbrev pub invariant-evaluate_parts-loop-part : goal.invariant-evaluate_parts-loop-part
invariant-evaluate_parts-loop-part l = IsWritten (flat_map (slots_of (value_at l.values)) (take l.part-index l.parts)) l.at l.next
    l.initial.slots l.slots
    × (l.no ≡ count_by is_no (map (value_of (value_at l.values)) (take l.part-index l.parts)))
    × (l.yes ≡ count_by is_yes (map (value_of (value_at l.values)) (take l.part-index l.parts)))
    × (length l.slots ≡ length l.initial.slots)
