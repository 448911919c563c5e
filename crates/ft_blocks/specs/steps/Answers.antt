-- What the questions for goals answer.
use Rattle.std.specs.Prelude.{ℕ, ◌≡◌, ◌<◌, IsTrue, List, length, take, slice_get, slice_index_or, Option, Some, None}
use Rattle.std.specs.List.{Contains}
use Rattle.ft_core.specs.declared.tables.Var.{Var}
use Rattle.ft_core.specs.meaning.Kinds.{controlled, is_of}
use Rattle.ft_core.specs.checked.Distinct.{AreDistinct}
use Rattle.ft_blocks.specs.declared.fault.BlockFault.{BlockFault}
use Rattle.ft_blocks.specs.declared.fault.BlockFault.TheVariants.{GoalMissing, NoMemory, ShownTwice}
use Rattle.ft_blocks.specs.meaning.Goals.{HaveGoals, IsGoalMissing, IsShownTwice}

-- each goal is a variable's place
abbrev pub AreVariables : (count : ℕ) → List ℕ → Type 0
AreVariables count goals = (k x : ℕ) → slice_get goals k ≡ Some x → x < count

-- the first controlled variable that is no goal
pub record IsFirstMissing (vars : List Var) (goals : List ℕ) (place : ℕ) : Type 0 where
  pub there : place < length vars
  pub is_controlled : IsTrue (is_of vars controlled place)
  pub missing : Contains goals place → ⊥
  pub before : HaveGoals vars goals place

abbrev pub AsksMissing : List Var → (goals : List ℕ) → Option ℕ → Type 0
AsksMissing vars goals None = HaveGoals vars goals (length vars)
AsksMissing vars goals (Some place) = IsFirstMissing vars goals place

-- the first goal that stands before
pub record IsFirstTwice (goals : List ℕ) (at : ℕ) : Type 0 where
  pub there : at < length goals
  pub earlier : Contains (take at goals) (slice_index_or goals at 0)
  pub first : AreDistinct (take at goals)

abbrev pub AsksTwice : List ℕ → Option ℕ → Type 0
AsksTwice goals None = AreDistinct goals
AsksTwice goals (Some at) = IsFirstTwice goals at

pub data IsMissingFault (vars : List Var) (goals : List ℕ) (fault : BlockFault) : Type 0 where
  missing : (name : List ℕ) → fault ≡ GoalMissing name → IsGoalMissing vars goals name → IsMissingFault vars goals fault
  memory : fault ≡ NoMemory → IsMissingFault vars goals fault

pub data IsTwiceFault (vars : List Var) (goals : List ℕ) (fault : BlockFault) : Type 0 where
  twice : (name : List ℕ) → fault ≡ ShownTwice name → IsShownTwice vars goals name → IsTwiceFault vars goals fault
  memory : fault ≡ NoMemory → IsTwiceFault vars goals fault
