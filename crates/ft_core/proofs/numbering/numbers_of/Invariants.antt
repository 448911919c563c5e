use Rattle.std.proofs.Common.{◌≡◌, take, map}
use Rattle.std.specs.Prelude.{slice_index_or}
use Rattle.ft_core.proofs.numbering.numbers_of.Given as goal

abbrev pub invariant-loop-item : goal.invariant-loop-item
invariant-loop-item l = l.list ≡ map (λ k. slice_index_or l.numbers k 0) (take l.item-index l.items)
