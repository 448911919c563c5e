-- Differences of two unknowns, and what solves them.
use Rattle.std.specs.Prelude.{◌≤◌, ◌<◌, ℕ, ℤ, pos, ◌-ℤ◌, ◌≤ℤ◌, List, Option, Some, None, All, unsigned_abs}
use Rattle.ft_linear.specs.meaning.Form.{InArea}
use Rattle.ft_diff.specs.declared.diff.Diff.{Diff}

-- the number of an unknown at a point; none is zero
abbrev pub number_at : (ℕ → ℤ) → Option ℕ → ℤ
number_at x None = pos 0
number_at x (Some u) = x u

-- a point meets a line
abbrev pub Meets : (ℕ → ℤ) → Diff → Type 0
Meets x d = (number_at x d.x -ℤ number_at x d.y) ≤ℤ d.c

-- a point of the area that meets each line
pub record IsSolution (list : List Diff) (spans : List (ℤ × ℤ)) (x : ℕ → ℤ) : Type 0 where
  pub inside : InArea spans x
  pub met : All (Meets x) list

-- at no unknown below this number is the first point greater than the second
abbrev pub IsUnder : ℕ → (ℕ → ℤ) → (ℕ → ℤ) → Type 0
IsUnder count x y = (u : ℕ) → u < count → x u ≤ℤ y u

-- zero, or an unknown below this number
abbrev pub HasUnknown : ℕ → Option ℕ → Type 0
HasUnknown count None = Unit {0}
HasUnknown count (Some u) = u < count

-- the greatest difference of a line, either way
abbrev pub difference_most : ℕ
difference_most = 5000000000000000

-- a line over this many unknowns
pub record IsOver (count : ℕ) (d : Diff) : Type 0 where
  pub x : HasUnknown count d.x
  pub y : HasUnknown count d.y
  pub c : unsigned_abs d.c ≤ difference_most
