-- How many splits a spent tree can have.
use Rattle.std.specs.Prelude.{◌≡◌, ◌+◌, ◌*◌, ◌^◌, ◌<◌, ◌≤ℤ◌, ◌-ℤ◌, ◌+ℤ◌, ℕ, ℤ, pos, nat_abs, true, List, [], ◌∷◌, length}
use Rattle.ft_linear.specs.meaning.Formula.{FormulaView, atoms_below}
use Rattle.ft_cert.specs.meaning.Parts.{whole_of}
use Rattle.ft_cert.specs.meaning.Tree.{Tree}
use Rattle.ft_search.specs.meaning.Spent.{IsSpentBy}

-- how many values a span has that isn't empty
abbrev pub values_in : ℤ × ℤ → ℕ
values_in s = nat_abs (s.1 -ℤ s.0 +ℤ pos 1)

-- how many points an area has
abbrev pub points_in : List (ℤ × ℤ) → ℕ
points_in [] = 1
points_in (s ∷ spans) = values_in s * points_in spans

-- no span is empty
abbrev pub AreNonempty : List (ℤ × ℤ) → Type 0
AreNonempty [] = Unit {0}
AreNonempty (s ∷ spans) = (s.0 ≤ℤ s.1) × AreNonempty spans

-- a spent tree has fewer splits than its area has points, times two for each atom, less one
abbrev pub SpendsLess : Type 0
SpendsLess =
    (f : FormulaView) (enough n : ℕ) (spans : List (ℤ × ℤ)) (t : Tree) → AreNonempty spans → atoms_below (length f.atoms) f.root ≡ true
    → IsSpentBy f enough (whole_of f spans) n t → n + 1 < points_in spans * 2 ^ length f.atoms
