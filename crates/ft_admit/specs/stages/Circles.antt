-- What an answer to the question for a circle says.
use Rattle.std.specs.Prelude.{◌≡◌, ℕ, List}
use Rattle.ft_tree.specs.declared.tree.Tree.{Tree}
use Rattle.ft_admit.specs.declared.fault.TypeFault.{TypeFault}
use Rattle.ft_admit.specs.declared.fault.TypeFault.TheVariants.{Cycle, NoMemory}
use Rattle.ft_admit.specs.meaning.Cycles.{IsCycle}

-- a circle of the tree, or want of memory
pub data IsCycleFault (tree : Tree) (fault : TypeFault) : Type 0 where
  cycle : (names : List (List ℕ)) → fault ≡ Cycle names → IsCycle tree names → IsCycleFault tree fault
  memory : fault ≡ NoMemory → IsCycleFault tree fault
