use Rattle.std.proofs.Common.{◌≡◌, ◌+◌, length, map, take}
use Rattle.std.specs.Prelude.{sum}
use Rattle.ft_linear.specs.meaning.Marks.{size_of}
use Rattle.ft_linear.proofs.marks.+take_slots.Given as goal

abbrev pub invariant-take_all-loop-part : goal.invariant-take_all-loop-part
invariant-take_all-loop-part l = length l.slots.items ≡ length l.initial.slots.items + sum (map size_of (take l.part-index l.parts))
