-- Points of fractions with one denominator, and what rows say of them.
use Rattle.std.specs.Prelude.{◌≡◌, ℕ, zero, suc, ℤ, pos, ◌+ℤ◌, ◌*ℤ◌, ◌<ℤ◌, ◌≤ℤ◌, ◌<◌, ◌≤◌, List, length, slice_get, Some}
use Rattle.ft_linear.specs.declared.lines.Line.{Line}
use Rattle.ft_linear.specs.meaning.Form.{LinView, sum_at}
use Rattle.ft_linear.specs.meaning.Formula.{FormulaView}
use Rattle.ft_linear.specs.meaning.Part.{PartView}
use Rattle.ft_linear.specs.meaning.Rules.{line_form}
use Rattle.ft_farkas.specs.meaning.Rows.{Row, row_of, constant, factor, sources}
use Rattle.ft_farkas.specs.meaning.Kept.{Divides, row_in}

-- a point as a list of numbers: the denominator, then the numerator of each unknown
abbrev pub denominator_of : List ℤ → ℤ
denominator_of point = row_of point 0

abbrev pub numerators_of : List ℤ → ℕ → ℤ
numerators_of point u = row_of point (suc u)

-- the factors of the unknowns below this number, each times a numerator
abbrev pub sum_below : ℕ → Row → (ℕ → ℤ) → ℤ
sum_below zero r x = pos 0
sum_below (suc u) r x = sum_below u r x +ℤ (factor u r *ℤ x u)

-- the value of a row at fractions with this denominator, times the denominator
abbrev pub row_at : ℕ → Row → (ℕ → ℤ) → ℤ → ℤ
row_at unknowns r x d = (d *ℤ constant r) +ℤ sum_below unknowns r x

-- a line is at most 0 at fractions with this denominator
abbrev pub Meets : (ℕ → ℤ) → ℤ → LinView → Type 0
Meets x d l = (sum_at x l.factors +ℤ (d *ℤ l.constant)) ≤ℤ pos 0

-- the fractions meet all lines and bounds
abbrev pub MeetsAll : FormulaView → PartView → List Line → (ℕ → ℤ) → ℤ → Type 0
MeetsAll f p lines x d = (k : ℕ) (l : Line) (form : LinView) → slice_get (sources p lines) k ≡ Some l → line_form f p l ≡ Some form → Meets x d form

-- of so many unknowns only those below this number are left in the row
abbrev pub IsBelow : ℕ → ℕ → Row → Type 0
IsBelow unknowns given r = (u : ℕ) → given ≤ u → u < unknowns → factor u r ≡ pos 0

-- a row that puts a lower bound on an unknown, by the unknowns before it alone
abbrev pub BoundsBelow : ℕ → ℕ → Row → Type 0
BoundsBelow unknowns u r = (factor u r <ℤ pos 0) × IsBelow unknowns (suc u) r

-- a row that puts an upper bound on an unknown, by the unknowns before it alone
abbrev pub BoundsAbove : ℕ → ℕ → Row → Type 0
BoundsAbove unknowns u r = (pos 0 <ℤ factor u r) × IsBelow unknowns (suc u) r

-- the fraction of an unknown is the greatest lower bound: each such bound is met, and one is reached
pub record IsGreatest (unknowns : ℕ) (kept : List (List ℤ)) (x : ℕ → ℤ) (d : ℤ) (u : ℕ) : Type 0 where
  pub met : (k : ℕ) → k < length kept → BoundsBelow unknowns u (row_in kept k) → row_at (suc u) (row_in kept k) x d ≤ℤ pos 0
  pub row : ℕ
  pub within : row < length kept
  pub bound : BoundsBelow unknowns u (row_in kept row)
  pub reached : row_at (suc u) (row_in kept row) x d ≡ pos 0

-- fractions of the unknowns below this number, given in the order of their numbers, with their least common denominator
pub record AreGiven (unknowns : ℕ) (kept : List (List ℤ)) (x : ℕ → ℤ) (d : ℤ) (given : ℕ) : Type 0 where
  pub positive : pos 0 <ℤ d
  pub lowest : (e : ℕ) → Divides e d → ((u : ℕ) → u < given → Divides e (x u)) → e ≤ 1
  pub meet : (k : ℕ) → k < length kept → IsBelow unknowns given (row_in kept k) → row_at given (row_in kept k) x d ≤ℤ pos 0
  pub greatest : (u : ℕ) → u < given → IsGreatest unknowns kept x d u
