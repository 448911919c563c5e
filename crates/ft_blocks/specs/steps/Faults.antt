-- A fault of the order of blocks, and one of their goals.
use Rattle.std.specs.Prelude.{ℕ, ◌≡◌, List, length}
use Rattle.ft_core.specs.declared.tables.Var.{Var}
use Rattle.ft_core.specs.declared.tables.Block.{Block}
use Rattle.ft_blocks.specs.declared.fault.BlockFault.{BlockFault}
use Rattle.ft_blocks.specs.declared.fault.BlockFault.TheVariants.{BlockCycle, GoalMissing, NoMemory, ShownTwice}
use Rattle.ft_blocks.specs.meaning.Cycles.{IsBlockCycle}
use Rattle.ft_blocks.specs.meaning.Goals.{HaveGoals, IsGoalMissing, IsShownTwice, block_goals}

pub data IsBlockCycleFault (blocks : List Block) (fault : BlockFault) : Type 0 where
  cycle : (names : List (List ℕ)) → fault ≡ BlockCycle names → IsBlockCycle blocks names → IsBlockCycleFault blocks fault
  memory : fault ≡ NoMemory → IsBlockCycleFault blocks fault

pub data IsGoalFault (vars : List Var) (blocks : List Block) (fault : BlockFault) : Type 0 where
  missing : (name : List ℕ) → fault ≡ GoalMissing name → IsGoalMissing vars (block_goals blocks) name → IsGoalFault vars blocks fault
  twice : (name : List ℕ) → fault ≡ ShownTwice name → HaveGoals vars (block_goals blocks) (length vars)
      → IsShownTwice vars (block_goals blocks) name → IsGoalFault vars blocks fault
  memory : fault ≡ NoMemory → IsGoalFault vars blocks fault
