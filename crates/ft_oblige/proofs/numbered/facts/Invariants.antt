use Rattle.std.proofs.Common.{◌≡◌, length, take}
use Rattle.std.specs.List.{sum_by}
use Rattle.ft_core.specs.declared.tables.Block.{Block}
use Rattle.ft_oblige.proofs.numbered.facts.Given as goal

abbrev pub invariant-loop-block : goal.invariant-loop-block
invariant-loop-block l = l.sum ≡ sum_by (λ (block : Block). length block.facts) (take l.block-index l.blocks)
