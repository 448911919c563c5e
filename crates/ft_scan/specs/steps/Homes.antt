-- Where the tables of a section define each variable.
use Rattle.std.specs.Prelude.{ℕ, ◌≡◌, ◌<◌, ◌⊎◌, List, length, slice_get, Option, Some, None, IsFalse}
use Rattle.ft_core.specs.declared.tables.Table.{Table}
use Rattle.ft_core.specs.declared.tables.Section.{Section}
use Rattle.ft_core.specs.declared.tables.Grid.{Grid}
use Rattle.ft_core.specs.declared.tables.Grid.TheVariants.{Normal, Inverted, Vector}
use Rattle.ft_core.specs.declared.term.Cond.{Cond}
use Rattle.ft_core.specs.declared.term.Term.{Term}
use Rattle.ft_core.specs.meaning.Grids.{defines, is_for}
use Rattle.ft_scan.specs.steps.Found.{IsTableFor, IsWhole}
use Rattle.ft_scan.specs.declared.homes.Home.{Home}
use Rattle.ft_scan.specs.declared.homes.Home.TheVariants.{Whole, Row}

-- the table at this place is a normal or an inverted table of the section, and for variable x
pub record IsWholeHome (tables : List Table) (section : Section) (x at : ℕ) : Type 0 where
  pub table : IsTableFor tables section x at
  pub whole : IsWhole table.table.grid

-- the table at this place is a vector table of the section, with variable x at this row
pub record IsRowHome (tables : List Table) (section : Section) (x at row : ℕ) : Type 0 where
  pub columns : List Cond
  pub targets : List ℕ
  pub terms : List (List Term)
  pub there : slice_get tables at ≡ Some (record { section = section; grid = Vector columns targets terms })
  pub target : slice_get targets row ≡ Some x

-- what stands for variable x after the first n tables
abbrev pub IsHome : List Table → Section → (n x : ℕ) → Option Home → Type 0
IsHome tables section n x None = (at : ℕ) (table : Table) → at < n → slice_get tables at ≡ Some table → IsFalse (is_for section x table)
IsHome tables section n x (Some (Whole at)) = IsWholeHome tables section x at
IsHome tables section n x (Some (Row at row)) = IsRowHome tables section x at row

abbrev pub AreHomes : List Table → Section → (n : ℕ) → List (Option Home) → Type 0
AreHomes tables section n homes = (x : ℕ) (home : Option Home) → slice_get homes x ≡ Some home → IsHome tables section n x home

-- a table at this place defines variable x there
abbrev pub IsPart : (at : ℕ) → Grid → (x : ℕ) → Home → Type 0
IsPart at (Vector columns targets terms) x home = (row : ℕ) × (slice_get targets row ≡ Some x) × (home ≡ Row at row)
IsPart at (Normal target columns rows terms) x home = (target ≡ x) × (home ≡ Whole at)
IsPart at (Inverted target terms rows grid) x home = (target ≡ x) × (home ≡ Whole at)

-- the homes of what a table defines are put in, and the others stay
pub record PutsHomes (at : ℕ) (grid : Grid) (old new : List (Option Home)) : Type 0 where
  pub long : length new ≡ length old
  pub none : (x : ℕ) → slice_get new x ≡ Some None → (slice_get old x ≡ Some None) × IsFalse (defines grid x)
  pub some : (x : ℕ) (home : Home) → slice_get new x ≡ Some (Some home) → (slice_get old x ≡ Some (Some home)) ⊎ IsPart at grid x home

-- the same of the first n rows of a vector table
pub record PutsRowHomes (at : ℕ) (targets : List ℕ) (n : ℕ) (old new : List (Option Home)) : Type 0 where
  pub long : length new ≡ length old
  pub none : (x : ℕ) → slice_get new x ≡ Some None
      → (slice_get old x ≡ Some None) × ((row : ℕ) → row < n → slice_get targets row ≡ Some x → ⊥)
  pub some : (x : ℕ) (home : Home) → slice_get new x ≡ Some (Some home)
      → (slice_get old x ≡ Some (Some home)) ⊎ ((row : ℕ) × (slice_get targets row ≡ Some x) × (home ≡ Row at row))
