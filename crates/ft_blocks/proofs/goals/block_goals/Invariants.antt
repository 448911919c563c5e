use Rattle.std.proofs.Common.{◌≡◌, take}
use Rattle.ft_blocks.specs.meaning.Goals.{block_goals}
use Rattle.ft_blocks.proofs.goals.block_goals.Given as goal

abbrev pub invariant-loop-block : goal.invariant-loop-block
invariant-loop-block l = l.goals ≡ block_goals (take l.block-index l.blocks)
