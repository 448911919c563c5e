-- What each item of an order adds to the steps of a scan, and what is known of the steps so far.
use Rattle.std.specs.Prelude.{ℕ, ◌+◌, ◌≡◌, ◌<◌, ◌⊎◌, true, false, List, [], ◌∷◌, ◌++◌, length, slice_get, slice_set, Option, Some, None}
use Rattle.std.specs.Prelude.{IsTrue, IsFalse}
use Rattle.ft_core.specs.declared.tables.Tables.{Tables}
use Rattle.ft_core.specs.declared.tables.Side.{Side}
use Rattle.ft_core.specs.meaning.Kinds.{defined_kinds, section_of, is_of}
use Rattle.ft_core.specs.meaning.Reads.{at_now, of_memory}
use Rattle.ft_core.specs.checked.Sound.{is_memory_of}
use Rattle.ft_scan.specs.declared.homes.Home.{Home}
use Rattle.ft_scan.specs.declared.homes.Home.TheVariants.{Whole, Row}
use Rattle.ft_scan.specs.declared.plan.Planned.{Planned}
use Rattle.ft_scan.specs.declared.plan.Step.{Step}
use Rattle.ft_scan.specs.declared.plan.Step.TheVariants as step
use Rattle.ft_scan.specs.steps.Homes.{IsHome}
use Rattle.ft_scan.specs.steps.Plan.{IsMade, CanFollow}

-- nothing is added
pub record Keeps (old new : Planned) : Type 0 where
  pub steps : new.steps ≡ old.steps
  pub columns : new.columns ≡ old.columns

-- one step is added
pub record Adds (one : Step) (old new : Planned) : Type 0 where
  pub steps : new.steps ≡ old.steps ++ one ∷ []
  pub columns : new.columns ≡ old.columns

-- the step that finds a table's column is added, and that it stands is kept
pub record FirstColumn (table : ℕ) (old new : Planned) : Type 0 where
  pub missed : slice_get old.columns table ≡ Some false
  pub steps : new.steps ≡ old.steps ++ step.Column table ∷ []
  pub columns : new.columns ≡ slice_set old.columns table true

-- it stands already, or is added
abbrev pub AddsColumn : (table : ℕ) → (old new : Planned) → Type 0
AddsColumn table old new = ((slice_get old.columns table ≡ Some true) × Keeps old new) ⊎ FirstColumn table old new

abbrev pub AddsEntry : (variable table row : ℕ) → (old new : Planned) → Type 0
AddsEntry variable table row old new = (mid : Planned) × AddsColumn table old mid × Adds (step.Entry variable table row) mid new

abbrev pub AddsHome : (variable : ℕ) → Home → (old new : Planned) → Type 0
AddsHome variable (Whole table) old new = Adds (step.Cell variable table) old new
AddsHome variable (Row table row) old new = AddsEntry variable table row old new

-- a variable that the side's tables define is made by its home
pub record AddsVariable (S : Tables) (s : Side) (variable : ℕ) (old new : Planned) : Type 0 where
  pub other : IsFalse (is_of S.vars (defined_kinds (section_of s)) variable) → Keeps old new
  pub defined : IsTrue (is_of S.vars (defined_kinds (section_of s)) variable)
      → (home : Home) × IsHome S.tables (section_of s) (length S.tables) variable (Some home) × AddsHome variable home old new

-- a memory of the side is made
pub record AddsMemory (S : Tables) (s : Side) (memory : ℕ) (old new : Planned) : Type 0 where
  pub other : IsFalse (is_memory_of S.memories s memory) → Keeps old new
  pub of_side : IsTrue (is_memory_of S.memories s memory) → Adds (step.Memory memory) old new

-- the items are the variables, and after them the memories
pub record AddsItem (S : Tables) (s : Side) (item : ℕ) (old new : Planned) : Type 0 where
  pub variable : item < length S.vars → AddsVariable S s item old new
  pub memory : (m : ℕ) → item ≡ length S.vars + m → AddsMemory S s m old new

-- the item that a step makes
abbrev pub item_of : (vars : ℕ) → Step → Option ℕ
item_of vars (step.Column table) = None
item_of vars (step.Cell x table) = Some x
item_of vars (step.Entry x table row) = Some x
item_of vars (step.Memory m) = Some (vars + m)

-- what stands so far may stand there, once, and is of the first `at` items; a column stands where it is said to
pub record IsRightSoFar (S : Tables) (s : Side) (order : List ℕ) (at : ℕ) (planned : Planned) : Type 0 where
  pub long : length planned.columns ≡ length S.tables
  pub follows : (n : ℕ) (one : Step) → slice_get planned.steps n ≡ Some one → CanFollow S s planned.steps n one
  pub once : (one : Step) (p q : ℕ) → slice_get planned.steps p ≡ Some one → slice_get planned.steps q ≡ Some one → p ≡ q
  pub of_item : (n k : ℕ) (one : Step) → slice_get planned.steps n ≡ Some one → item_of (length S.vars) one ≡ Some k
      → (p : ℕ) × (p < at) × (slice_get order p ≡ Some k)
  pub stands : (table : ℕ) → slice_get planned.columns table ≡ Some true → (q : ℕ) × (slice_get planned.steps q ≡ Some (step.Column table))
  pub said : (q table : ℕ) → slice_get planned.steps q ≡ Some (step.Column table) → slice_get planned.columns table ≡ Some true

-- of the first `at` items each variable that the side's tables define and each memory of the side is made
pub record HasMade (S : Tables) (s : Side) (order : List ℕ) (at : ℕ) (planned : Planned) : Type 0 where
  pub variables : (p x : ℕ) → p < at → slice_get order p ≡ Some x → IsTrue (is_of S.vars (defined_kinds (section_of s)) x)
      → IsMade planned.steps (length planned.steps) (at_now x)
  pub memories : (p k m : ℕ) → p < at → slice_get order p ≡ Some k → k ≡ length S.vars + m → IsTrue (is_memory_of S.memories s m)
      → IsMade planned.steps (length planned.steps) (of_memory m)

abbrev pub IsSoFar : Tables → Side → List ℕ → ℕ → Planned → Type 0
IsSoFar S s order at planned = IsRightSoFar S s order at planned × HasMade S s order at planned
