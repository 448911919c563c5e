-- What a point of a formula of coverage tells of a table's cells: which of them hold, and which of these are out of range, is the same
-- at every view that has the point's values.
use Rattle.std.specs.Prelude.{ℕ, ◌+◌, ◌≡◌, ◌<◌, ◌≤◌, ◌↔◌, ℤ, int_lt, Bool, false, ◌&&◌, ◌||◌, List, filter, length, IsTrue, Option, Some}
use Rattle.std.specs.Prelude.{None, slice_get}
use Rattle.ft_core.specs.declared.tables.Tables.{Tables}
use Rattle.ft_core.specs.declared.tables.Table.{Table}
use Rattle.ft_core.specs.declared.tables.Var.{Var}
use Rattle.ft_core.specs.declared.tables.Grid.{Grid}
use Rattle.ft_core.specs.declared.term.Term.{Term}
use Rattle.ft_core.specs.meaning.Grids.{Cell, cells}
use Rattle.ft_core.specs.meaning.Reads.{grid_reads}
use Rattle.ft_linear.specs.meaning.Form.{values_at}
use Rattle.ft_mean.specs.meaning.Cells.{cell_holds, holding}
use Rattle.ft_mean.specs.meaning.Value.{View, value}
use Rattle.ft_claims.specs.declared.claim.Claim.{Claim}
use Rattle.ft_claims.specs.declared.claim.Claim.TheVariants.{Not, And, Or}
use Rattle.ft_claims.specs.laws.FormulaLaws.{AreGood}
use Rattle.ft_claims.specs.laws.PointLaws.{cover_obliged, HasValues}
use Rattle.ft_claims.specs.meaning.Areas.{Spans, Obliged, is_used, finished}
use Rattle.ft_claims.specs.meaning.Claims.{claim_true}
use Rattle.ft_claims.specs.meaning.Coverage.{Fault, overlap, range}
use Rattle.ft_claims.specs.meaning.Names.{width}
use Rattle.ft_claims.specs.meaning.Numbers.{cover_numbers}
use Rattle.ft_claims.specs.meaning.Points.{IsPointOf}
use Rattle.ft_claims.specs.meaning.Shown.{Shows, OutOfRange, AreReadMemories}

-- one of these claims, or a claim that stands within one
pub data IsWithinOne (cs : List Claim) : Claim → Type 0 where
  one : {c : Claim} (k : ℕ) → slice_get cs k ≡ Some c → IsWithinOne cs c
  of_not : {c : Claim} → IsWithinOne cs (Not c) → IsWithinOne cs c
  of_and : {c : Claim} (k : ℕ) (ds : List Claim) → IsWithinOne cs (And ds) → slice_get ds k ≡ Some c → IsWithinOne cs c
  of_or : {c : Claim} (k : ℕ) (ds : List Claim) → IsWithinOne cs (Or ds) → slice_get ds k ≡ Some c → IsWithinOne cs c

-- what stands within some claims is as true at numbers that agree on the names of their formula
abbrev pub PartsAlike : Type 0
PartsAlike = (spans : Spans) (parts : List Claim) → AreGood spans parts → (σ τ : ℕ → ℤ)
    → ((u : ℕ) → u < length spans → IsTrue (is_used (length spans) parts u) → σ u ≡ τ u)
    → (c : Claim) → IsWithinOne parts c → claim_true σ c ≡ claim_true τ c

-- whether a term is out of the range of a variable
abbrev pub is_out_of : View → Option Var → Term → Bool
is_out_of V None e = false
is_out_of V (Some v) e = int_lt (value V e) v.range.0 || int_lt v.range.1 (value V e)

-- whether a cell holds and its term is out of the range of its variable
abbrev pub is_beyond : Tables → View → Cell → Bool
is_beyond S V cell = cell_holds V cell && is_out_of V (slice_get S.vars cell.target) cell.term

-- the cells that hold where there is an overlap
abbrev pub OverlapsAlike : Type 0
OverlapsAlike = (S : Tables) (k : ℕ) (table : Table) → slice_get S.tables k ≡ Some table → (ms : List ℕ)
    → AreReadMemories S (grid_reads table.grid) ms → (p : List ℤ) → IsPointOf (cover_obliged S overlap table.grid ms) p
    → (V W : View) → HasValues S overlap table.grid ms p V → HasValues S overlap table.grid ms p W
    → holding V (cells table.grid) ≡ holding W (cells table.grid)

-- those that hold and are out of range
abbrev pub RangesAlike : Type 0
RangesAlike = (S : Tables) (k : ℕ) (table : Table) → slice_get S.tables k ≡ Some table → (ms : List ℕ)
    → AreReadMemories S (grid_reads table.grid) ms → (p : List ℤ)
    → (V W : View) → HasValues S range table.grid ms p V → HasValues S range table.grid ms p W
    → filter (is_beyond S V) (cells table.grid) ≡ filter (is_beyond S W) (cells table.grid)

-- two hold where there is an overlap
abbrev pub OverlapHasTwo : Type 0
OverlapHasTwo = (S : Tables) (grid : Grid) (V : View) → Shows S overlap grid V → 2 ≤ length (holding V (cells grid))

-- the first two of them, by rows, are for one variable
abbrev pub OverlapIsOfOne : Type 0
OverlapIsOfOne = (S : Tables) (k : ℕ) (table : Table) → slice_get S.tables k ≡ Some table → (V : View) → Shows S overlap table.grid V
    → (c d : Cell) → slice_get (holding V (cells table.grid)) 0 ≡ Some c → slice_get (holding V (cells table.grid)) 1 ≡ Some d
    → c.target ≡ d.target

-- and one is out of range where that is the fault
abbrev pub RangeHasOne : Type 0
RangeHasOne = (S : Tables) (grid : Grid) (V : View) → OutOfRange S grid V → 1 ≤ length (filter (is_beyond S V) (cells grid))

-- each name of an obligation stands there once
abbrev pub NamesAreOnce : Type 0
NamesAreOnce = (spans : Spans) (parts : List Claim) (i j u : ℕ) → slice_get (finished spans parts).names i ≡ Some u
    → slice_get (finished spans parts).names j ≡ Some u → i ≡ j

-- a view has these values for the names of an obligation. It has no memories of the scan before
abbrev pub HasKept : Tables → Obliged → List ℤ → View → Type 0
HasKept S o values V = (i u : ℕ) → slice_get o.names i ≡ Some u → u < width S + length S.vars → values_at values i ≡ cover_numbers S V u

-- a point's values are those for the names, in their order
abbrev pub KeptIsValues : Type 0
KeptIsValues = (S : Tables) (fault : Fault) (grid : Grid) (ms : List ℕ) (p : List ℤ) (V : View)
    → HasKept S (cover_obliged S fault grid ms) p V ↔ HasValues S fault grid ms p V
