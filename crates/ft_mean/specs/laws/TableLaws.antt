-- The table of a section for a variable, its cells, what they read, and the one value that they give.
use Rattle.std.specs.Prelude.{ℕ, ◌≡◌, ℤ, IsTrue, Some, slice_get}
use Rattle.std.specs.List.{Contains, flat_map}
use Rattle.ft_base.specs.Interval.{IsWithin}
use Rattle.ft_core.specs.declared.tables.Tables.{Tables}
use Rattle.ft_core.specs.declared.tables.Table.{Table}
use Rattle.ft_core.specs.declared.tables.Var.{Var}
use Rattle.ft_core.specs.declared.tables.Grid.{Grid}
use Rattle.ft_core.specs.declared.tables.Section.{Section}
use Rattle.ft_core.specs.meaning.Grids.{Cell, cells, cells_for, defines, is_section, is_for}
use Rattle.ft_core.specs.meaning.Kinds.{defined_kinds}
use Rattle.ft_core.specs.meaning.Reads.{Read, grid_reads, cell_reads}
use Rattle.ft_core.specs.checked.Sound.{may_read}
use Rattle.ft_mean.specs.meaning.Cells.{cells_of, defined}
use Rattle.ft_mean.specs.laws.EvaluationLaws.{AllSame}
use Rattle.ft_mean.specs.meaning.Proper.{IsLocal, AllProper}
use Rattle.ft_mean.specs.meaning.Reading.{IsVar}
use Rattle.ft_mean.specs.meaning.Value.{View}

-- the one table of a section for a variable
pub record TableOf (S : Tables) (section : Section) (x : ℕ) : Type 0 where
  pub place : ℕ
  pub table : Table
  pub there : slice_get S.tables place ≡ Some table
  pub section_is : table.section ≡ section
  pub defines_it : IsTrue (defines table.grid x)
  pub cells_are : cells_of S section x ≡ cells_for x table.grid

-- each variable that a section defines has one there
abbrev pub HasTable : Type 0
HasTable = (S : Tables) (section : Section) (x : ℕ) (v : Var) → IsVar S (defined_kinds section) x v → TableOf S section x

-- the cells of a section for a variable are those of any table of it that defines the variable
abbrev pub CellsAreOfTable : Type 0
CellsAreOfTable = (S : Tables) (section : Section) (x k : ℕ) (table : Table) → slice_get S.tables k ≡ Some table
    → IsTrue (is_for section x table)
    → cells_of S section x ≡ cells_for x table.grid

-- what a cell reads, its table reads
abbrev pub CellsReadTheirs : Type 0
CellsReadTheirs = (grid : Grid) (k : ℕ) (cell : Cell) (r : Read) → slice_get (cells grid) k ≡ Some cell → Contains (cell_reads cell) r
    → Contains (grid_reads grid) r

-- so what the cells for a variable read, their table reads
abbrev pub OwnReads : Type 0
OwnReads = (grid : Grid) (x : ℕ) (r : Read) → Contains (flat_map cell_reads (cells_for x grid)) r → Contains (grid_reads grid) r

-- what the cells of a section for a variable read, the section may read
abbrev pub CellsMayRead : Type 0
CellsMayRead = (S : Tables) (section : Section) (x : ℕ) (r : Read) → Contains (flat_map cell_reads (cells_of S section x)) r
    → IsTrue (may_read S.vars S.memories section r)

-- views that agree on what the cells of a section for a variable read give it the same values
abbrev pub SameDefined : Type 0
SameDefined = (S : Tables) (section : Section) (V W : View) (x : ℕ) (z : ℤ) → AllSame V W (flat_map cell_reads (cells_of S section x))
    → defined S section V x z ≡ defined S section W x z

-- a section is the one that it passes for, and no other
abbrev pub SectionsAreTold : Type 0
SectionsAreTold = (a b : Section) → (IsTrue (is_section a b) → a ≡ b) × (a ≡ b → IsTrue (is_section a b))

-- the one value that the tables of a section give a variable
pub record OneValue (S : Tables) (section : Section) (V : View) (x : ℕ) (range : ℤ × ℤ) : Type 0 where
  pub z : ℤ
  pub in_range : IsWithin range z
  pub is : IsTrue (defined S section V x z)
  pub only : (y : ℤ) → IsTrue (defined S section V x y) → y ≡ z

-- proper tables give each variable that a section defines exactly one value, in its range, at a view that is local to its table
abbrev pub HasOneValue : Type 0
HasOneValue = (S : Tables) → AllProper S → (section : Section) (V : View) (x : ℕ) (v : Var) → IsVar S (defined_kinds section) x v
    → ((k : ℕ) (table : Table) → slice_get S.tables k ≡ Some table → IsTrue (is_for section x table) → IsLocal S (grid_reads table.grid) V)
    → OneValue S section V x v.range
