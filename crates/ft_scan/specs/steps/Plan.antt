-- The steps of a scan, and which lists of them compute a side of a set.
use Rattle.std.specs.Prelude.{ℕ, ◌≡◌, ◌<◌, ◌⊎◌, List, length, slice_get, Some, IsTrue}
use Rattle.std.specs.List.{Contains, flat_map}
use Rattle.ft_core.specs.declared.tables.Tables.{Tables}
use Rattle.ft_core.specs.declared.tables.Side.{Side}
use Rattle.ft_core.specs.declared.tables.Grid.TheVariants.{Vector}
use Rattle.ft_core.specs.declared.term.Term.{Term}
use Rattle.ft_core.specs.declared.term.Cond.{Cond}
use Rattle.ft_core.specs.meaning.Grids.{cells_for}
use Rattle.ft_core.specs.meaning.Kinds.{given_kinds, defined_kinds, side_kinds, section_of, is_of}
use Rattle.ft_core.specs.meaning.Reads.{Read, at_now, at_before, of_memory, of_age, cond_reads, cell_reads}
use Rattle.ft_core.specs.checked.Sound.{item_reads, is_memory_of}
use Rattle.ft_scan.specs.declared.plan.Step.{Step}
use Rattle.ft_scan.specs.declared.plan.Step.TheVariants as step
use Rattle.ft_scan.specs.steps.Found.{IsTableFor, IsWhole}

-- what a step makes known of the scan
abbrev pub Makes : Step → Read → Type 0
Makes (step.Column table) r = ⊥
Makes (step.Cell x table) r = r ≡ at_now x
Makes (step.Entry x table row) r = r ≡ at_now x
Makes (step.Memory m) r = r ≡ of_memory m

-- one of the first n steps makes this known
abbrev pub IsMade : List Step → ℕ → Read → Type 0
IsMade steps n r = (q : ℕ) × (one : Step) × (q < n) × (slice_get steps q ≡ Some one) × Makes one r

-- a read of the side is known after the first n steps: a given variable is, any value of the scan before is, and what was made
abbrev pub IsKnown : Tables → Side → List Step → ℕ → Read → Type 0
IsKnown S s steps n (at_now x) = IsTrue (is_of S.vars (given_kinds s) x) ⊎ IsMade steps n (at_now x)
IsKnown S s steps n (at_before x) = IsTrue (is_of S.vars (side_kinds s) x)
IsKnown S s steps n (of_memory m) = IsMade steps n (of_memory m)
IsKnown S s steps n (of_age m) = ⊥

abbrev pub AreKnown : Tables → Side → List Step → ℕ → List Read → Type 0
AreKnown S s steps n reads = (r : Read) → Contains reads r → IsKnown S s steps n r

-- the table at this place is a vector table of the side
abbrev pub IsVector : Tables → Side → ℕ → List Cond → List ℕ → List (List Term) → Type 0
IsVector S s at columns targets terms = slice_get S.tables at ≡ Some (record
    { section = section_of s; grid = Vector columns targets terms })

-- the column of a vector table may be looked for after n steps; the table defines a variable of the side
pub record CanFindColumn (S : Tables) (s : Side) (steps : List Step) (n table : ℕ) : Type 0 where
  pub columns : List Cond
  pub targets : List ℕ
  pub terms : List (List Term)
  pub there : IsVector S s table columns targets terms
  pub known : AreKnown S s steps n (flat_map cond_reads columns)
  pub row : ℕ
  pub variable : ℕ
  pub target : slice_get targets row ≡ Some variable
  pub defined : IsTrue (is_of S.vars (defined_kinds (section_of s)) variable)

-- a variable may be computed by a whole table
pub record CanFindCell (S : Tables) (s : Side) (steps : List Step) (n variable table : ℕ) : Type 0 where
  pub there : IsTableFor S.tables (section_of s) variable table
  pub whole : IsWhole there.table.grid
  pub defined : IsTrue (is_of S.vars (defined_kinds (section_of s)) variable)
  pub known : AreKnown S s steps n (flat_map cell_reads (cells_for variable there.table.grid))

-- a variable may be computed by a row of a vector table
pub record CanFindEntry (S : Tables) (s : Side) (steps : List Step) (n variable table row : ℕ) : Type 0 where
  pub columns : List Cond
  pub targets : List ℕ
  pub terms : List (List Term)
  pub there : IsVector S s table columns targets terms
  pub target : slice_get targets row ≡ Some variable
  pub defined : IsTrue (is_of S.vars (defined_kinds (section_of s)) variable)
  pub found : (q : ℕ) × (q < n) × (slice_get steps q ≡ Some (step.Column table))
  pub known : AreKnown S s steps n (flat_map cell_reads (cells_for variable (Vector columns targets terms)))

pub record CanAdvanceMemory (S : Tables) (s : Side) (steps : List Step) (n memory : ℕ) : Type 0 where
  pub there : IsTrue (is_memory_of S.memories s memory)
  pub known : AreKnown S s steps n (item_reads S.memories S.tables (of_memory memory))

-- a step may be taken after n steps
abbrev pub CanFollow : Tables → Side → List Step → ℕ → Step → Type 0
CanFollow S s steps n (step.Column table) = CanFindColumn S s steps n table
CanFollow S s steps n (step.Cell x table) = CanFindCell S s steps n x table
CanFollow S s steps n (step.Entry x table row) = CanFindEntry S s steps n x table row
CanFollow S s steps n (step.Memory m) = CanAdvanceMemory S s steps n m

-- each step may be taken after those before it, none stands twice, and all that the side's tables define and all its memories
-- are made
pub record IsPlan (S : Tables) (s : Side) (steps : List Step) : Type 0 where
  pub follows : (n : ℕ) (one : Step) → slice_get steps n ≡ Some one → CanFollow S s steps n one
  pub once : (one : Step) (p q : ℕ) → slice_get steps p ≡ Some one → slice_get steps q ≡ Some one → p ≡ q
  pub variables : (x : ℕ) → IsTrue (is_of S.vars (defined_kinds (section_of s)) x) → IsMade steps (length steps) (at_now x)
  pub memories : (m : ℕ) → IsTrue (is_memory_of S.memories s m) → IsMade steps (length steps) (of_memory m)
