use Rattle.std.proofs.Common.{◌≡◌, map, take}
use Rattle.ft_oblige.specs.meaning.Labels.{slot_at}
use Rattle.ft_oblige.proofs.labelling.slots_of.Given as goal

abbrev pub invariant-loop-name : goal.invariant-loop-name
invariant-loop-name l = l.slots ≡ map (slot_at l.tables) (take l.name-index l.names)
