-- Canonical forms: divided by the greatest common divisor of the factors, and negated where the first is negative.
use Rattle.std.specs.Prelude.{◌≡◌, ◌<◌, ℕ, zero, suc, ◌%◌, pos, neg_ℤ, int_lt, nat_eq, not, Bool, true, List, [], ◌∷◌, length, map}
use Rattle.std.specs.Prelude.{unsigned_abs, if◌then◌else◌}
use Rattle.std.specs.List.{list_all}
use Rattle.ft_base.specs.Division.{floor_of}
use Rattle.ft_linear.specs.meaning.Form.{Factor, LinView}
use Rattle.ft_linear.specs.meaning.Rules.{literal_form}

-- the greatest number up to this one that divides each factor
abbrev pub divides_all : ℕ → List Factor → Bool
divides_all d fs = list_all (λ f. nat_eq (unsigned_abs f.1 % d) 0) fs

unfoldable pub greatest_divisor : ℕ → List Factor → ℕ
greatest_divisor zero fs = 0
greatest_divisor (suc n) fs = if divides_all (suc n) fs then suc n else greatest_divisor n fs

abbrev pub gcd_of : List Factor → ℕ
gcd_of [] = 0
gcd_of (f ∷ fs) = greatest_divisor (unsigned_abs f.1) (f ∷ fs)

-- the factors divided by g, and the constant divided by it and rounded up
abbrev pub divided : ℕ → LinView → LinView
divided g l = record { factors = map (λ f. (f.0, floor_of f.1 (pos g))) l.factors; constant = neg_ℤ (floor_of (neg_ℤ l.constant) (pos g)) }

-- whether a form's atom stays itself, or becomes the negation of another
abbrev pub is_positive : List Factor → Bool
is_positive [] = true
is_positive (f ∷ fs) = not (int_lt f.1 (pos 0))

-- the form of the canonical atom: divided by the greatest common divisor of its factors, and 1 minus that where its first factor is
-- negative
abbrev pub canonical : LinView → LinView
canonical l = literal_form (is_positive l.factors) (divided (gcd_of l.factors) l)

-- factors in lowest terms, of which the first isn't negative: only 1 divides each
pub record AreCanonical (fs : List Factor) : Type 0 where
  pub some : 0 < length fs
  pub lowest : (d : ℕ) → divides_all d fs ≡ true → d ≡ 1
  pub positive : is_positive fs ≡ true

abbrev pub IsCanonical : LinView → Type 0
IsCanonical l = AreCanonical l.factors
