-- The first fault of blocks, by the step that finds it.
use Rattle.std.proofs.Common.{arith, ◌≡◌, sym, subst, refl, ℕ, List, length, take, slice_get, Some}
use Rattle.std.specs.Prelude.{slice_index_or}
use Rattle.std.proofs.lemmas.Option.{slice_get-get_or, slice_get_within}
use Rattle.std.proofs.lemmas.List.{length-take-le, take-append-drop}
use Rattle.ft_core.specs.meaning.Kinds.{controlled}
use Rattle.ft_core.specs.declared.tables.Block.{Block}
use Rattle.ft_core.specs.declared.tables.Var.{Var}
use Rattle.ft_core.specs.checked.Distinct.{AreDistinct}
use Rattle.ft_core.specs.laws.Places.{on-left, place-of}
use Rattle.ft_blocks.specs.declared.fault.BlockFault.{BlockFault}
use Rattle.ft_blocks.specs.declared.fault.BlockFault.TheVariants.{GoalMissing, NoMemory, ShownTwice}
use Rattle.ft_blocks.specs.meaning.Cycles.{HasNoBlockCycle}
use Rattle.ft_blocks.specs.meaning.Faults as fault
use Rattle.ft_blocks.specs.meaning.Faults.{HasNoBlockFault, IsBlockFault}
use Rattle.ft_blocks.specs.meaning.Goals.{HaveGoals, IsNameOf, IsGoalMissing, IsShownTwice, block_goals}
use Rattle.ft_blocks.specs.steps.Answers as answer
use Rattle.ft_blocks.specs.steps.Answers.{AreVariables, IsFirstMissing, IsFirstTwice, IsMissingFault, IsTwiceFault}
use Rattle.ft_blocks.specs.steps.Faults as step
use Rattle.ft_blocks.specs.steps.Faults.{IsBlockCycleFault, IsGoalFault}
use Rattle.ft_blocks.proofs.GoalLemmas.{is-there}

pub missing-named : (vars : List Var) (goals : List ℕ) (place : ℕ) (name : List ℕ) → IsFirstMissing vars goals place
    → IsNameOf vars place name → IsMissingFault vars goals (GoalMissing name)
missing-named vars goals place name found named = answer.missing name refl (record {
  place = place;
  named = named;
  is_controlled = found.is_controlled;
  missing = found.missing;
  before = found.before;
})

pub twice-named : (vars : List Var) (goals : List ℕ) (at : ℕ) (name : List ℕ) → IsFirstTwice goals at
    → IsNameOf vars (slice_index_or goals at 0) name → IsTwiceFault vars goals (ShownTwice name)
twice-named vars goals at name found named = answer.twice name refl (record {
  at = at;
  place = slice_index_or goals at 0;
  named = named;
  here = slice_get-get_or goals at 0 found.there;
  earlier = found.earlier;
  first = found.first;
})

pub from-missing : (vars given : List Var) (blocks : List Block) (goals : List ℕ) (found : BlockFault) → given ≡ vars
    → goals ≡ block_goals blocks → IsMissingFault given goals found → IsGoalFault vars blocks found
from-missing vars given blocks goals found same is (answer.missing name named here) = step.missing name named
    (subst (λ (v : List Var). IsGoalMissing v (block_goals blocks) name) same
    (subst (λ (g : List ℕ). IsGoalMissing given g name) is here))
from-missing vars given blocks goals found same is (answer.memory no_memory) = step.memory no_memory

pub from-twice : (vars given : List Var) (blocks : List Block) (goals : List ℕ) (found : BlockFault) → given ≡ vars
    → goals ≡ block_goals blocks → HaveGoals vars (block_goals blocks) (length vars) → IsTwiceFault given goals found
    → IsGoalFault vars blocks found
from-twice vars given blocks goals found same is every (answer.twice name named here) = step.twice name named every
    (subst (λ (v : List Var). IsShownTwice v (block_goals blocks) name) same
    (subst (λ (g : List ℕ). IsShownTwice given g name) is here))
from-twice vars given blocks goals found same is every (answer.memory no_memory) = step.memory no_memory

pub lent-variables : (vars given : List Var) (goals lent : List ℕ) → given ≡ vars → lent ≡ goals → AreVariables (length vars) goals
    → AreVariables (length given) lent
lent-variables vars given goals lent same is are =
    subst (λ (v : List Var). AreVariables (length v) lent) (sym same) (subst (λ (g : List ℕ). AreVariables (length vars) g) (sym is) are)

pub lent-goals : (vars given : List Var) (goals lent : List ℕ) → given ≡ vars → lent ≡ goals → HaveGoals given lent (length given)
    → HaveGoals vars goals (length vars)
lent-goals vars given goals lent same is every =
    subst (λ (v : List Var). HaveGoals v goals (length v)) same (subst (λ (g : List ℕ). HaveGoals given g (length given)) is every)

pub from-order : (vars : List Var) (blocks : List Block) (found : BlockFault) → IsBlockCycleFault blocks found
    → IsBlockFault vars blocks found
from-order vars blocks found (step.cycle names is here) = fault.circle names is here
from-order vars blocks found (step.memory no_memory) = fault.memory no_memory

pub from-goals : (vars : List Var) (blocks : List Block) (found : BlockFault) → HasNoBlockCycle blocks → IsGoalFault vars blocks found
    → IsBlockFault vars blocks found
from-goals vars blocks found none (step.missing name is here) = fault.missing name is none here
from-goals vars blocks found none (step.twice name is every here) = fault.twice name is none every here
from-goals vars blocks found none (step.memory no_memory) = fault.memory no_memory

-- what stands in the front of a list stands there in the list
from-front : (xs : List ℕ) (i k x : ℕ) → slice_get (take i xs) k ≡ Some x → slice_get xs k ≡ Some x
from-front xs i k x at =
    subst (λ (l : List ℕ). slice_get l k ≡ Some x) (take-append-drop i xs) (on-left (take i xs) _ k x at)

no-twice : (vars : List Var) (goals : List ℕ) (name : List ℕ) → AreDistinct goals → IsShownTwice vars goals name → ⊥
no-twice vars goals name once found =
    let place = place-of (take found.at goals) found.place found.earlier in
    let front = from-front goals found.at place.0 found.place place.1 in
    let same = once place.0 found.at found.place front found.here in
    let low = slice_get_within (take found.at goals) place.0 found.place place.1 in
    let within = slice_get_within goals found.at found.place found.here in
    let short = length-take-le found.at goals (omega (arith, within)) in
    omega (arith, same, low, short)

-- where there is no fault, only want of memory is in the way
pub memory-only : (vars : List Var) (blocks : List Block) (found : BlockFault) → HasNoBlockFault vars blocks
    → IsBlockFault vars blocks found → found ≡ NoMemory
memory-only vars blocks found no_fault (fault.circle names is here) = absurd (no_fault.no_cycle here.places here.first.circle)
memory-only vars blocks found no_fault (fault.missing name is none here) =
    absurd (here.missing (no_fault.every here.place (is-there vars controlled here.place here.is_controlled) here.is_controlled))
memory-only vars blocks found no_fault (fault.twice name is none every here) =
    absurd (no-twice vars (block_goals blocks) name no_fault.once here)
memory-only vars blocks found no_fault (fault.memory no_memory) = no_memory
