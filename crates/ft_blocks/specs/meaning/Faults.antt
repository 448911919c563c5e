-- The faults of blocks: which one is answered, and where there is none.
use Rattle.std.specs.Prelude.{◌≡◌, ℕ, List, length}
use Rattle.ft_core.specs.declared.tables.Var.{Var}
use Rattle.ft_core.specs.declared.tables.Block.{Block}
use Rattle.ft_core.specs.checked.Distinct.{AreDistinct}
use Rattle.ft_blocks.specs.declared.fault.BlockFault.{BlockFault}
use Rattle.ft_blocks.specs.declared.fault.BlockFault.TheVariants.{BlockCycle, GoalMissing, NoMemory, ShownTwice}
use Rattle.ft_blocks.specs.meaning.Cycles.{HasNoBlockCycle, IsBlockCycle}
use Rattle.ft_blocks.specs.meaning.Goals.{HaveGoals, IsGoalMissing, IsShownTwice, block_goals}

-- the blocks make a proof
pub record HasNoBlockFault (vars : List Var) (blocks : List Block) : Type 0 where
  pub no_cycle : HasNoBlockCycle blocks
  pub every : HaveGoals vars (block_goals blocks) (length vars)
  pub once : AreDistinct (block_goals blocks)

-- The fault is the first of the blocks: of the first kind that occurs, and of that the first. Where several circles go through the
-- first name, each is. Want of memory is free.
pub data IsBlockFault (vars : List Var) (blocks : List Block) (fault : BlockFault) : Type 0 where
  circle : (names : List (List ℕ)) → fault ≡ BlockCycle names → IsBlockCycle blocks names → IsBlockFault vars blocks fault
  missing : (name : List ℕ) → fault ≡ GoalMissing name → HasNoBlockCycle blocks → IsGoalMissing vars (block_goals blocks) name
      → IsBlockFault vars blocks fault
  twice : (name : List ℕ) → fault ≡ ShownTwice name → HasNoBlockCycle blocks → HaveGoals vars (block_goals blocks) (length vars)
      → IsShownTwice vars (block_goals blocks) name → IsBlockFault vars blocks fault
  memory : fault ≡ NoMemory → IsBlockFault vars blocks fault
