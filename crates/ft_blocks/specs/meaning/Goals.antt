-- The goals of blocks: controlled variables that are the goal of no block, or of two.
use Rattle.std.specs.Prelude.{ℕ, ◌≡◌, ◌<◌, IsTrue, List, [], ◌∷◌, take, slice_get, option_map, Some}
use Rattle.std.specs.List.{Contains, flat_map}
use Rattle.ft_core.specs.declared.tables.Var.{Var}
use Rattle.ft_core.specs.declared.tables.Block.{Block}
use Rattle.ft_core.specs.declared.tables.Fact.{Fact}
use Rattle.ft_core.specs.declared.tables.Fact.TheVariants.{Goal, Invariant}
use Rattle.ft_core.specs.meaning.Kinds.{controlled, is_of}
use Rattle.ft_core.specs.checked.Distinct.{AreDistinct}

abbrev pub fact_goals : Fact → List ℕ
fact_goals (Goal x) = x ∷ []
fact_goals (Invariant name cond) = []

-- the variables of all goals, in the order of the text
abbrev pub block_goals : List Block → List ℕ
block_goals blocks = flat_map (λ block. flat_map fact_goals block.facts) blocks

-- the variable at this place is there, and has this name
abbrev pub IsNameOf : List Var → ℕ → List ℕ → Type 0
IsNameOf vars place name = option_map (λ v. v.name) (slice_get vars place) ≡ Some name

-- each controlled variable before this place is a goal
abbrev pub HaveGoals : List Var → (goals : List ℕ) → ℕ → Type 0
HaveGoals vars goals n = (x : ℕ) → x < n → IsTrue (is_of vars controlled x) → Contains goals x

-- the name of the first controlled variable, in order of declaration, that is no goal
pub record IsGoalMissing (vars : List Var) (goals : List ℕ) (name : List ℕ) : Type 0 where
  pub place : ℕ
  pub named : IsNameOf vars place name
  pub is_controlled : IsTrue (is_of vars controlled place)
  pub missing : Contains goals place → ⊥
  pub before : HaveGoals vars goals place

-- the name of the variable of the first goal that an earlier goal has already
pub record IsShownTwice (vars : List Var) (goals : List ℕ) (name : List ℕ) : Type 0 where
  pub at : ℕ
  pub place : ℕ
  pub named : IsNameOf vars place name
  pub here : slice_get goals at ≡ Some place
  pub earlier : Contains (take at goals) place
  pub first : AreDistinct (take at goals)

-- this fact of this block has the variable as its goal
abbrev pub IsGoalOf : List Block → (b f x : ℕ) → Type 0
IsGoalOf blocks b f x = (block : Block) × (slice_get blocks b ≡ Some block) × (slice_get block.facts f ≡ Some (Goal x))

-- each controlled variable is the goal of exactly one block
pub record HasGoals (vars : List Var) (blocks : List Block) : Type 0 where
  pub some : (x : ℕ) → IsTrue (is_of vars controlled x) → (b f : ℕ) × IsGoalOf blocks b f x
  pub one : (x b c f g : ℕ) → IsGoalOf blocks b f x → IsGoalOf blocks c g x → (b ≡ c) × (f ≡ g)
