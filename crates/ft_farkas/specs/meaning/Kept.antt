-- Kept rows: lines, bounds, and the rows derived from two kept rows before them.
use Rattle.std.specs.Prelude.{◌≡◌, ℕ, ℤ, pos, ◌<◌, ◌≤◌, ◌+ℤ◌, ◌*ℤ◌, ◌<ℤ◌, List, [], length, slice_index_or, unsigned_abs}
use Prim.Native.Nat.{◌∣◌}
use Rattle.ft_linear.specs.declared.lines.Line.{Line}
use Rattle.ft_linear.specs.meaning.Formula.{FormulaView}
use Rattle.ft_linear.specs.meaning.Part.{PartView}
use Rattle.ft_farkas.specs.meaning.Rows.{Row, row_of, sources, source_row, factor, width}

-- a row of a list of rows, each given by its numbers
abbrev pub row_in : List (List ℤ) → ℕ → Row
row_in kept k = row_of (slice_index_or kept k [])

-- the least positive multipliers with which two factors cancel
pub record Cancels (a b : ℤ) (m n : ℕ) : Type 0 where
  pub first : 0 < m
  pub second : 0 < n
  pub cancel : (pos m *ℤ a) +ℤ (pos n *ℤ b) ≡ pos 0
  pub least : (i j : ℕ) → 0 < i → 0 < j → (pos i *ℤ a) +ℤ (pos j *ℤ b) ≡ pos 0 → (m ≤ i) × (n ≤ j)

abbrev pub Divides : ℕ → ℤ → Type 0
Divides d z = d ∣ unsigned_abs z

-- a row that is two rows, each times its multiplier, divided by the greatest common divisor of all its numbers
pub record Combines (columns : ℕ) (u : ℕ) (r s t : Row) : Type 0 where
  pub above : pos 0 <ℤ factor u r
  pub below : factor u s <ℤ pos 0
  pub times_first : ℕ
  pub times_second : ℕ
  pub cancels : Cancels (factor u r) (factor u s) times_first times_second
  pub divisor : ℕ
  pub positive : 0 < divisor
  pub divided : (c : ℕ) → c < columns → pos divisor *ℤ t c ≡ (pos times_first *ℤ r c) +ℤ (pos times_second *ℤ s c)
  pub greatest : (d : ℕ) → ((c : ℕ) → c < columns → Divides d (t c)) → d ≤ 1

abbrev pub IsNarrow : ℤ → Type 0
IsNarrow z = unsigned_abs z ≤ 4611686018427387904

-- a row that is made of two kept rows before this number, with no number above 2^62 either way
pub record IsDerived (unknowns : ℕ) (kept : List (List ℤ)) (k : ℕ) (r : Row) : Type 0 where
  pub unknown : ℕ
  pub first : ℕ
  pub second : ℕ
  pub within : unknown < unknowns
  pub first_before : first < k
  pub second_before : second < k
  pub made : Combines (width unknowns) unknown (row_in kept first) (row_in kept second) r
  pub narrow : (c : ℕ) → IsNarrow (r c)

-- the kept rows by number: the lines, both bounds of each unknown, then derived rows
pub record AreKept (f : FormulaView) (p : PartView) (lines : List Line) (kept : List (List ℤ)) : Type 0 where
  pub count : length (sources p lines) ≤ length kept
  pub given : (k c : ℕ) → k < length (sources p lines) → row_in kept k c ≡ source_row f p lines k c
  pub derived : (k : ℕ) → length (sources p lines) ≤ k → k < length kept → IsDerived (length p.spans) kept k (row_in kept k)
