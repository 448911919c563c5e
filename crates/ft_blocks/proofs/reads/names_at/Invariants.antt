use Rattle.std.proofs.Common.{◌≡◌, [], take, map}
use Rattle.std.specs.Prelude.{slice_index_or}
use Rattle.ft_blocks.specs.meaning.Cycles.{block_names}
use Rattle.ft_blocks.proofs.reads.names_at.Given as goal

abbrev pub invariant-loop-place : goal.invariant-loop-place
invariant-loop-place l = l.names ≡ map (λ k. slice_index_or (block_names l.blocks) k []) (take l.place-index l.places)
