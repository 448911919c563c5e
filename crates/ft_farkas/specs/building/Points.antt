-- Values of rows at points, and the bounds that they put on an unknown.
use Rattle.std.specs.Prelude.{◌≡◌, ◌≢◌, ℕ, zero, suc, ℤ, pos, neg_ℤ, ◌+ℤ◌, ◌*ℤ◌, ◌≤ℤ◌, ◌<◌, ◌≤◌, List, length, unsigned_abs}
use Rattle.ft_farkas.specs.meaning.Rows.{Row, factor}
use Rattle.ft_farkas.specs.meaning.Kept.{row_in, Divides}
use Rattle.ft_farkas.specs.meaning.Fractions.{IsBelow, BoundsBelow, BoundsAbove}

-- the numbers of the columns before this one, each times that of a point
abbrev pub dot : ℕ → Row → Row → ℤ
dot zero r x = pos 0
dot (suc c) r x = dot c r x +ℤ (r c *ℤ x c)

abbrev pub IsNear : ℤ → Type 0
IsNear z = unsigned_abs z ≤ 9007199254740992

-- the number of the unknowns up to the last one that is left in the row
abbrev pub IsTop : ℕ → Row → ℕ → Type 0
IsTop unknowns r top = (top ≤ unknowns) × IsBelow unknowns top r × ((u : ℕ) → top ≡ suc u → factor u r ≢ pos 0)

-- how far a row is above 0 where an unknown has this value over so much, each times it
abbrev pub excess : ℕ → Row → Row → ℕ → ℤ → ℤ
excess u r x times value = (pos times *ℤ dot (suc u) r x) +ℤ (factor u r *ℤ value)

-- a lower bound of an unknown: its row's value without the unknown over minus its factor
pub record IsBound (unknowns u : ℕ) (kept : List (List ℤ)) (x : Row) (at : ℕ) (value : ℤ) (times : ℕ) : Type 0 where
  pub within : at < length kept
  pub bound : BoundsBelow unknowns u (row_in kept at)
  pub is_value : value ≡ dot (suc u) (row_in kept at) x
  pub is_times : factor u (row_in kept at) ≡ neg_ℤ (pos times)
  pub small : unsigned_abs value ≤ 85070591730234615865843651857942052864
  pub narrow : times ≤ 4611686018427387904

-- the greatest lower bound by kept rows
abbrev pub AllUnder : ℕ → ℕ → List (List ℤ) → Row → ℕ → ℤ → ℕ → Type 0
AllUnder unknowns u kept x count value times = (k : ℕ) → k < count → BoundsBelow unknowns u (row_in kept k) → excess u (row_in kept k) x times value ≤ℤ pos 0

-- no upper bound by kept rows is below it
abbrev pub NoneOver : ℕ → ℕ → List (List ℤ) → Row → ℕ → ℤ → ℕ → Type 0
NoneOver unknowns u kept x count value times = (k : ℕ) → k < count → BoundsAbove unknowns u (row_in kept k) → excess u (row_in kept k) x times value ≤ℤ pos 0

-- a point with one unknown more, of this value over so much of the denominator, over the least common denominator
pub record IsExtended (u : ℕ) (times : ℕ) (value : ℤ) (x y : Row) : Type 0 where
  pub divisor : ℕ
  pub positive : 0 < divisor
  pub scaled : (c : ℕ) → c ≤ u → pos divisor *ℤ y c ≡ pos times *ℤ x c
  pub last : pos divisor *ℤ y (suc u) ≡ value
  pub lowest : (e : ℕ) → ((c : ℕ) → c ≤ suc u → Divides e (y c)) → e ≤ 1
