use Rattle.std.proofs.Common.{◌≡◌, map, take}
use Rattle.ft_oblige.specs.meaning.Labels.{label_of}
use Rattle.ft_oblige.proofs.labelling.labels_of.Given as goal

abbrev pub invariant-loop-slot : goal.invariant-loop-slot
invariant-loop-slot l = l.labels ≡ map (label_of l.tables l.bits) (take l.slot-index l.slots)
