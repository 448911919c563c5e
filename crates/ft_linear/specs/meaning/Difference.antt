-- The difference lines of a part, and the points of its area that meet them.
use Rattle.std.specs.Prelude.{◌≡◌, ℕ, ℤ, pos, negsuc, ◌≤ℤ◌, Bool, true, false, ◌&&◌, ◌||◌, List, [], ◌∷◌, Some, slice_get}
use Rattle.std.specs.Ordering.{int_eq}
use Rattle.ft_linear.specs.meaning.Form.{Factor, LinView, InArea, form_at}
use Rattle.ft_linear.specs.meaning.Formula.{FormulaView}
use Rattle.ft_linear.specs.meaning.Part.{PartView, forced}
use Rattle.ft_linear.specs.meaning.Rules.{literal_form}

abbrev pub is_one : ℤ → Bool
is_one z = int_eq z (pos 1)

abbrev pub is_minus_one : ℤ → Bool
is_minus_one z = int_eq z (negsuc 0)

-- one unknown with the factor 1 or -1, or two with the factors 1 and -1
abbrev pub is_difference : List Factor → Bool
is_difference [] = false
is_difference (f ∷ []) = is_one f.1 || is_minus_one f.1
is_difference (f ∷ g ∷ []) = (is_one f.1 && is_minus_one g.1) || (is_minus_one f.1 && is_one g.1)
is_difference (f ∷ g ∷ h ∷ fs) = false

-- a point of the area that meets the line of each forced literal that is a difference
pub record Solves (f : FormulaView) (p : PartView) (x : ℕ → ℤ) : Type 0 where
  pub inside : InArea p.spans x
  pub meets : (a : ℕ) (s : Bool) (l : LinView) → forced f p a s ≡ true → slice_get f.atoms a ≡ Some l → is_difference l.factors ≡ true
      → form_at x (literal_form s l) ≤ℤ pos 0

abbrev pub HasSolution : FormulaView → PartView → Type 0
HasSolution f p = (x : ℕ → ℤ) × Solves f p x

abbrev pub HasNoSolution : FormulaView → PartView → Type 0
HasNoSolution f p = (x : ℕ → ℤ) → Solves f p x → ⊥
