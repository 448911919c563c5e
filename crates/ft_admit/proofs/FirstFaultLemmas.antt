-- The first fault of a tree, by the stage that finds it.
use Rattle.std.proofs.Common.{◌≡◌, refl, inl, inr, Option, Some, None}
use Rattle.std.specs.Prelude.{Err}
use Rattle.ft_tree.specs.declared.tree.Tree.{Tree}
use Rattle.ft_names.specs.declared.stop.Stop.{Stop}
use Rattle.ft_names.specs.declared.stop.Stop.TheVariants as stop
use Rattle.ft_names.specs.meaning.First.{Answers}
use Rattle.ft_admit.specs.declared.fault.TypeFault.{TypeFault}
use Rattle.ft_admit.specs.declared.fault.TypeFault.TheVariants.{NoMemory}
use Rattle.ft_admit.specs.meaning.Cycles.{HasNoCycle}
use Rattle.ft_admit.specs.meaning.TreeFaults.{HasNoFault, IsFirstFault, early, circle, unknown, memory}
use Rattle.ft_admit.specs.meaning.TypeFaults.{AnswersType, fault_before_circles, type_stop}
use Rattle.ft_admit.specs.meaning.Uses.{first_unknown_invariant}
use Rattle.ft_admit.specs.stages.Circles.{IsCycleFault}
use Rattle.ft_admit.specs.stages.Circles as stage

pub from-early : (tree : Tree) (fault : TypeFault) → AnswersType {A = Unit {0}} (Err fault) (fault_before_circles tree)
    → IsFirstFault tree fault
from-early tree fault (inl no_memory) = memory no_memory
from-early tree fault (inr found) = early found

pub from-cycle : (tree : Tree) (fault : TypeFault) → fault_before_circles tree ≡ None → IsCycleFault tree fault → IsFirstFault tree fault
from-cycle tree fault before (stage.cycle names is found) = circle names is before found
from-cycle tree fault before (stage.memory no_memory) = memory no_memory

pub from-use : (tree : Tree) (given : Stop TypeFault) → fault_before_circles tree ≡ None → HasNoCycle tree
    → Answers {A = Unit {0}} (Err given) (first_unknown_invariant tree.items) → IsFirstFault tree (type_stop given)
from-use tree (stop.Fault fault) before none found = unknown before none found
from-use tree stop.NoMemory before none found = memory refl

two-answers : (fault : TypeFault) (first : Option TypeFault) → first ≡ None → first ≡ Some fault → ⊥
two-answers fault first none some = cc

pub memory-only : (tree : Tree) (fault : TypeFault) → HasNoFault tree → IsFirstFault tree fault → fault ≡ NoMemory
memory-only tree fault no_fault (early found) = absurd (two-answers fault (fault_before_circles tree) no_fault.before found)
memory-only tree fault no_fault (circle names is before found) = absurd (no_fault.no_cycle found.numbers found.circle)
memory-only tree fault no_fault (unknown before none found) =
    absurd (two-answers fault (first_unknown_invariant tree.items) no_fault.uses found)
memory-only tree fault no_fault (memory no_memory) = no_memory
