-- The parts of the formulas of blocks and the spans of their names.
use Rattle.std.specs.Prelude.{ℕ, ◌+◌, ◌≡◌, ℤ, ◌≤ℤ◌, Bool, List, length, Some, slice_get}
use Rattle.ft_core.specs.declared.tables.Tables.{Tables}
use Rattle.ft_core.specs.declared.tables.Block.{Block}
use Rattle.ft_core.specs.declared.tables.Fact.{Fact}
use Rattle.ft_linear.specs.meaning.Form.{InArea}
use Rattle.ft_claims.specs.laws.FormulaLaws.{AreGood}
use Rattle.ft_claims.specs.laws.GoodLaws.{ConditionsGood, DefinitionsGood, MovesGood, NegationsGood, ConjunctionsGood}
use Rattle.ft_claims.specs.meaning.Names.{width}
use Rattle.ft_claims.specs.meaning.Spans.{InSpans}
use Rattle.ft_oblige.specs.meaning.Blocks.{IsFactAt, block_parts, others}
use Rattle.ft_oblige.specs.meaning.States.{slot_spans}

-- what the crates below say of the claims that the parts are made of
pub record Goods : Type 0 where
  pub conditions : ConditionsGood
  pub definitions : DefinitionsGood
  pub moves : MovesGood
  pub negations : NegationsGood
  pub conjunctions : ConjunctionsGood

-- the names of the parts have spans, and their divisors are positive, whichever of the other parts are there
abbrev pub PartsAreGood : Type 0
PartsAreGood = (S : Tables) (b f : ℕ) (block : Block) (fact : Fact) → IsFactAt S b f block fact → (anew : Bool) (marks : List Bool)
    → AreGood (slot_spans S) (block_parts S anew block fact marks)

-- so are all other parts that there may be
abbrev pub OthersAreGood : Type 0
OthersAreGood = (S : Tables) (anew : Bool) → AreGood (slot_spans S) (others S anew)

-- each name of two scans has a span
abbrev pub SlotsAreNames : Type 0
SlotsAreNames = (S : Tables) → length (slot_spans S) ≡ width S + width S

-- which has a number
abbrev pub SlotsHaveSome : Type 0
SlotsHaveSome = (S : Tables) (u : ℕ) (s : ℤ × ℤ) → slice_get (slot_spans S) u ≡ Some s → s.0 ≤ℤ s.1

-- numbers are in their spans name by name exactly where they are in the area of all names
abbrev pub SlotsAreSpans : Type 0
SlotsAreSpans = (S : Tables) (σ : ℕ → ℤ) → (InSpans S σ → InArea (slot_spans S) σ) × (InArea (slot_spans S) σ → InSpans S σ)
