-- The three formulas of a table's coverage: they have points exactly where local views show the faults, and a point tells it itself.
use Rattle.std.specs.Prelude.{ℕ, ◌+◌, ◌≡◌, ◌<◌, ◌↔◌, ℤ, List, length, IsTrue, Some, slice_get}
use Rattle.ft_core.specs.declared.tables.Tables.{Tables}
use Rattle.ft_core.specs.declared.tables.Table.{Table}
use Rattle.ft_core.specs.declared.tables.Grid.{Grid}
use Rattle.ft_core.specs.meaning.Reads.{grid_reads}
use Rattle.ft_linear.specs.meaning.Form.{values_at}
use Rattle.ft_mean.specs.meaning.Proper.{IsLocal, IsProper}
use Rattle.ft_mean.specs.meaning.Value.{View}
use Rattle.ft_claims.specs.laws.FormulaLaws.{AreGood}
use Rattle.ft_claims.specs.meaning.Areas.{Obliged, is_used, used, place_in, finished}
use Rattle.ft_claims.specs.meaning.Coverage.{Fault, cover_parts}
use Rattle.ft_claims.specs.meaning.Names.{width}
use Rattle.ft_claims.specs.meaning.Numbers.{cover_numbers}
use Rattle.ft_claims.specs.meaning.Points.{IsPointOf}
use Rattle.ft_claims.specs.meaning.Shown.{Shows, AreReadMemories}
use Rattle.ft_claims.specs.meaning.Spans.{cover_spans}

-- the obligation of a table for a fault
abbrev pub cover_obliged : Tables → Fault → Grid → List ℕ → Obliged
cover_obliged S fault grid ms = finished (cover_spans S) (cover_parts S fault grid ms)

-- a view has the values of a point: each name of this scan, and each variable of the scan before, that the formula has. A view has
-- no memories of the scan before
abbrev pub HasValues : Tables → Fault → Grid → List ℕ → List ℤ → View → Type 0
HasValues S fault grid ms p V = (u : ℕ) → u < width S + length S.vars → IsTrue
    (is_used (length (cover_spans S)) (cover_parts S fault grid ms) u)
    → values_at p (place_in (used (length (cover_spans S)) (cover_parts S fault grid ms)) u) ≡ cover_numbers S V u

-- the names of its parts have spans, and their divisors are positive
abbrev pub CoverIsGood : Type 0
CoverIsGood = (S : Tables) (k : ℕ) (table : Table) → slice_get S.tables k ≡ Some table → (ms : List ℕ)
    → AreReadMemories S (grid_reads table.grid) ms → (fault : Fault) → AreGood (cover_spans S) (cover_parts S fault table.grid ms)

-- some local view has the values of a point
abbrev pub PointsAreLocal : Type 0
PointsAreLocal = (S : Tables) (k : ℕ) (table : Table) → slice_get S.tables k ≡ Some table → (ms : List ℕ)
    → AreReadMemories S (grid_reads table.grid) ms → (fault : Fault) (p : List ℤ) → IsPointOf (cover_obliged S fault table.grid ms) p
    → (V : View) × IsLocal S (grid_reads table.grid) V × HasValues S fault table.grid ms p V

-- at every view that has them the table shows the fault
abbrev pub PointsShow : Type 0
PointsShow = (S : Tables) (k : ℕ) (table : Table) → slice_get S.tables k ≡ Some table → (ms : List ℕ)
    → AreReadMemories S (grid_reads table.grid) ms → (fault : Fault) (p : List ℤ) → IsPointOf (cover_obliged S fault table.grid ms) p
    → (V : View) → HasValues S fault table.grid ms p V → Shows S fault table.grid V

-- and where the table shows a fault at a local view its formula has a point
abbrev pub ShownHasPoint : Type 0
ShownHasPoint = (S : Tables) (k : ℕ) (table : Table) → slice_get S.tables k ≡ Some table → (ms : List ℕ)
    → AreReadMemories S (grid_reads table.grid) ms → (fault : Fault) (V : View) → IsLocal S (grid_reads table.grid) V
    → Shows S fault table.grid V → (p : List ℤ) × IsPointOf (cover_obliged S fault table.grid ms) p

-- so a table is proper exactly where none of its three formulas has a point
abbrev pub ProperHasNoPoint : Type 0
ProperHasNoPoint = (S : Tables) (k : ℕ) (table : Table) → slice_get S.tables k ≡ Some table → (ms : List ℕ)
    → AreReadMemories S (grid_reads table.grid) ms
    → IsProper S table ↔ ((fault : Fault) (p : List ℤ) → IsPointOf (cover_obliged S fault table.grid ms) p → ⊥)
