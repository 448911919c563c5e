use Rattle.std.proofs.Common.{◌≡◌, take}
use Rattle.ft_blocks.specs.meaning.Cycles.{block_reads}
use Rattle.ft_blocks.proofs.reads.block_reads.Given as goal

abbrev pub invariant-loop-block : goal.invariant-loop-block
invariant-loop-block l = l.reads ≡ block_reads (take l.block-index l.blocks)
