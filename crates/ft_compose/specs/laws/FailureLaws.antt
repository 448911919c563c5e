-- The points of the formula of a fact are the states at which the diagram fails.
use Rattle.std.specs.Prelude.{ℕ, ◌≡◌, ℤ, Bool, IsFalse, List, Some, slice_get}
use Rattle.ft_core.specs.declared.tables.Tables.{Tables}
use Rattle.ft_core.specs.declared.tables.Var.{Var}
use Rattle.ft_core.specs.declared.tables.Block.{Block}
use Rattle.ft_core.specs.declared.tables.Fact.{Fact}
use Rattle.ft_core.specs.declared.tables.Section.{Section}
use Rattle.ft_core.specs.meaning.Grids.{Cell}
use Rattle.ft_core.specs.meaning.Kinds.{defined_kinds}
use Rattle.ft_mean.specs.meaning.Cells.{cell_holds, cells_of}
use Rattle.ft_mean.specs.meaning.Reading.{IsVar}
use Rattle.ft_claims.specs.laws.FormulaLaws.{Gives}
use Rattle.ft_claims.specs.meaning.Names.{view}
use Rattle.ft_claims.specs.meaning.Points.{IsPointOf}
use Rattle.ft_claims.specs.meaning.Spans.{InSpans}
use Rattle.ft_oblige.specs.meaning.Blocks.{IsFactAt, now_frame, block_parts}
use Rattle.ft_oblige.specs.meaning.Obligations.{AreOf, Closes, block_obliged}
use Rattle.ft_oblige.specs.meaning.States.{slot_spans, fact_true}
use Rattle.ft_core.specs.declared.label.Label.{Label}
use Rattle.ft_compose.specs.declared.blocks.Cells.{Cells}
use Rattle.ft_compose.specs.meaning.Decided.{IsFailing}
use Rattle.ft_compose.specs.meaning.Failing.{FailsAt, IsTold}

-- these numbers are a state with the values of a point of the formula of a fact
abbrev pub HasState : Tables → (anew : Bool) → Block → Fact → List Bool → List ℤ → (ℕ → ℤ) → Type 0
HasState S anew block fact marks p σ = Gives (slot_spans S) (block_parts S anew block fact marks) p σ

-- a point has the values of some state
abbrev pub PointsAreStates : Type 0
PointsAreStates = (S : Tables) (anew : Bool) (block : Block) (fact : Fact) (marks : List Bool) (p : List ℤ)
    → IsPointOf (block_obliged S anew block fact marks) p → (σ : ℕ → ℤ) × InSpans S σ × HasState S anew block fact marks p σ

-- and at each state that has them the diagram fails
abbrev pub PointsFail : Type 0
PointsFail = (S : Tables) (b f : ℕ) (block : Block) (fact : Fact) (anew : Bool) → IsFactAt S b f block fact → (marks : List Bool)
    → AreOf S anew block fact marks → (p : List ℤ) → IsPointOf (block_obliged S anew block fact marks) p
    → (σ : ℕ → ℤ) → HasState S anew block fact marks p σ → FailsAt S anew block fact σ

-- each state at which it fails makes a point
abbrev pub StatesMakePoints : Type 0
StatesMakePoints = (S : Tables) (b f : ℕ) (block : Block) (fact : Fact) (anew : Bool) → IsFactAt S b f block fact → (marks : List Bool)
    → AreOf S anew block fact marks → (σ : ℕ → ℤ) → InSpans S σ → FailsAt S anew block fact σ
    → (p : List ℤ) × IsPointOf (block_obliged S anew block fact marks) p

-- where it fails the fact is false at the view that the state tells
abbrev pub FailsIsFalse : Type 0
FailsIsFalse = (S : Tables) (anew : Bool) (block : Block) (fact : Fact) (σ : ℕ → ℤ) → FailsAt S anew block fact σ
    → IsFalse (fact_true S (view S (now_frame S anew) σ) (view S (now_frame S anew) σ).now fact)

-- a cell that is told holds at all states with the values of a point, or at none
abbrev pub ToldCellsAlike : Type 0
ToldCellsAlike = (S : Tables) (anew : Bool) (block : Block) (fact : Fact) (marks : List Bool) (section : Section) (x : ℕ) (v : Var)
    → IsVar S (defined_kinds section) x v
    → (k : ℕ) (cell : Cell) → slice_get (cells_of S section x) k ≡ Some cell → IsTold S anew (block_parts S anew block fact marks) cell
    → (p : List ℤ) (σ τ : ℕ → ℤ) → HasState S anew block fact marks p σ → HasState S anew block fact marks p τ
    → cell_holds (view S (now_frame S anew) σ) cell ≡ cell_holds (view S (now_frame S anew) τ) cell

-- an obligation of a fact that fails isn't closed
abbrev pub FailingIsOpen : Type 0
FailingIsOpen = (S : Tables) (n : ℕ) (cells : Cells) (values : List ℤ) (labels : List Label) → IsFailing S n cells values labels
    → Closes S n → ⊥
