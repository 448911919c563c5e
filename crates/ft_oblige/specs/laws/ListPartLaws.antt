-- The parts of the formulas of lists and the spans of their names.
use Rattle.std.specs.Prelude.{ℕ, ◌*◌, ◌+◌, ◌≡◌, ◌<◌, ℤ, ◌≤ℤ◌, length, Some, slice_get}
use Rattle.ft_base.specs.Interval.{IsWithin}
use Rattle.ft_core.specs.declared.tables.Tables.{Tables}
use Rattle.ft_core.specs.declared.tables.Var.{Var}
use Rattle.ft_core.specs.declared.tables.Memory.{Memory}
use Rattle.ft_linear.specs.meaning.Form.{InArea}
use Rattle.ft_mean.specs.laws.Moves.{span_of}
use Rattle.ft_claims.specs.laws.FormulaLaws.{AreGood}
use Rattle.ft_claims.specs.meaning.Names.{width, memo}
use Rattle.ft_oblige.specs.meaning.Lists.{list_spans, list_parts, difference_parts}

-- the names of the parts have spans, and their divisors are positive
abbrev pub ListsAreGood : Type 0
ListsAreGood = (S : Tables) (n : ℕ) → AreGood (list_spans S n) (list_parts S n)

abbrev pub DifferencesAreGood : Type 0
DifferencesAreGood = (S : Tables) (n : ℕ) → 0 < n → AreGood (list_spans S n) (difference_parts S n)

-- each name of n scans has a span
abbrev pub ListsAreNames : Type 0
ListsAreNames = (S : Tables) (n : ℕ) → length (list_spans S n) ≡ n * width S

-- which has a number
abbrev pub ListsHaveSome : Type 0
ListsHaveSome = (S : Tables) (n u : ℕ) (s : ℤ × ℤ) → slice_get (list_spans S n) u ≡ Some s → s.0 ≤ℤ s.1

-- variables have their values at each of n scans, and memories what they keep
pub record InListSpans (S : Tables) (n : ℕ) (σ : ℕ → ℤ) : Type 0 where
  pub values : (t x : ℕ) (v : Var) → t < n → slice_get S.vars x ≡ Some v → IsWithin v.range (σ (t * width S + x))
  pub kept : (t m : ℕ) (memory : Memory) → t < n → slice_get S.memories m ≡ Some memory
      → IsWithin (span_of memory) (σ (memo S (t * width S) m))

-- numbers are in their spans name by name exactly where they are in the area of all names
abbrev pub ListsAreSpans : Type 0
ListsAreSpans = (S : Tables) (n : ℕ) (σ : ℕ → ℤ) → (InListSpans S n σ → InArea (list_spans S n) σ)
    × (InArea (list_spans S n) σ → InListSpans S n σ)
