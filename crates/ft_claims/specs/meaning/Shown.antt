-- Which faults a table shows at a view, and which memories it reads.
use Rattle.std.specs.Prelude.{ℕ, ◌≡◌, ◌<◌, ◌≤◌, List, length, Some, slice_get, IsTrue}
use Rattle.ft_base.specs.Interval.{IsWithin}
use Rattle.ft_core.specs.declared.tables.Tables.{Tables}
use Rattle.ft_core.specs.declared.tables.Var.{Var}
use Rattle.ft_core.specs.declared.tables.Grid.{Grid}
use Rattle.ft_core.specs.meaning.Grids.{Cell, cells, cells_for, defines}
use Rattle.ft_core.specs.meaning.Reads.{Read}
use Rattle.ft_mean.specs.meaning.Cells.{holding}
use Rattle.ft_mean.specs.meaning.Proper.{ReadsMemory}
use Rattle.ft_mean.specs.meaning.Value.{View, value}
use Rattle.ft_claims.specs.meaning.Coverage.{Fault, gap, overlap, range}

-- a cell that holds and whose term is out of the range of its variable
pub record OutOfRange (S : Tables) (grid : Grid) (V : View) : Type 0 where
  pub place : ℕ
  pub cell : Cell
  pub variable : Var
  pub holds : slice_get (holding V (cells grid)) place ≡ Some cell
  pub its : slice_get S.vars cell.target ≡ Some variable
  pub outside : IsWithin variable.range (value V cell.term) → ⊥

-- for some variable that it defines no cell holds, or two hold at least; or some cell is out of range
abbrev pub Shows : Tables → Fault → Grid → View → Type 0
Shows S gap grid V = (x : ℕ) × IsTrue (defines grid x) × (length (holding V (cells_for x grid)) ≡ 0)
Shows S overlap grid V = (x : ℕ) × IsTrue (defines grid x) × (2 ≤ length (holding V (cells_for x grid)))
Shows S range grid V = OutOfRange S grid V

-- the memories that these read, also through conditions and terms of memories, in order of declaration
pub record AreReadMemories (S : Tables) (reads : List Read) (ms : List ℕ) : Type 0 where
  pub there : (j m : ℕ) → slice_get ms j ≡ Some m → m < length S.memories
  pub read : (j m : ℕ) → slice_get ms j ≡ Some m → ReadsMemory S reads m
  pub each : (m : ℕ) → m < length S.memories → ReadsMemory S reads m → (j : ℕ) × (slice_get ms j ≡ Some m)
  pub rising : (i j m k : ℕ) → slice_get ms i ≡ Some m → slice_get ms j ≡ Some k → i < j → m < k
