-- The faults of a tree from NoVariable to UnknownInvariant: which one is answered, and where there is none.
use Rattle.std.specs.Prelude.{◌≡◌, ℕ, List, Some, None}
use Rattle.ft_tree.specs.declared.tree.Tree.{Tree}
use Rattle.ft_admit.specs.declared.fault.TypeFault.{TypeFault}
use Rattle.ft_admit.specs.declared.fault.TypeFault.TheVariants.{Cycle, NoMemory}
use Rattle.ft_admit.specs.meaning.Cycles.{HasNoCycle, IsCycle}
use Rattle.ft_admit.specs.meaning.TypeFaults.{fault_before_circles}
use Rattle.ft_admit.specs.meaning.Uses.{first_unknown_invariant}

-- the tree spells a checked set
pub record HasNoFault (tree : Tree) : Type 0 where
  pub before : fault_before_circles tree ≡ None
  pub no_cycle : HasNoCycle tree
  pub uses : first_unknown_invariant tree.items ≡ None

-- The fault is the first of the tree: of the first kind that occurs, and of that the first. Where several circles go through the
-- first name, each is. Want of memory is free.
pub data IsFirstFault (tree : Tree) (fault : TypeFault) : Type 0 where
  early : fault_before_circles tree ≡ Some fault → IsFirstFault tree fault
  circle : (names : List (List ℕ)) → fault ≡ Cycle names → fault_before_circles tree ≡ None → IsCycle tree names → IsFirstFault tree fault
  unknown : fault_before_circles tree ≡ None → HasNoCycle tree → first_unknown_invariant tree.items ≡ Some fault → IsFirstFault tree fault
  memory : fault ≡ NoMemory → IsFirstFault tree fault
