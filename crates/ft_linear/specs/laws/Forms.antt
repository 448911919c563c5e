-- Laws over forms alone: their factors, and what they keep when they are negated or divided.
use Rattle.std.specs.Prelude.{◌≡◌, ◌<◌, ℕ, ℤ, pos, neg_ℤ, ◌+ℤ◌, ◌*ℤ◌, int_le, Bool, List, length, slice_index_or}
use Rattle.ft_base.specs.Division.{floor_of}
use Rattle.ft_linear.specs.meaning.Forced.{same_bool}
use Rattle.ft_linear.specs.meaning.Form.{Factor, LinView, AreRising, IsSmall, form_at, scaled, sum_at}
use Rattle.ft_linear.specs.meaning.Rules.{literal_form}

-- each factor of rising unknowns is small
abbrev pub FactorsAreSmall : Type 0
FactorsAreSmall = (from : ℕ) (fs : List Factor) (i : ℕ) (d : Factor) → AreRising from fs → i < length fs → IsSmall (slice_index_or fs i d).1

-- the form of a literal is at most 0 exactly where its atom is as the literal says
abbrev pub LiteralsHold : Type 0
LiteralsHold =
    (x : ℕ → ℤ) (s : Bool) (l : LinView) → int_le (form_at x (literal_form s l)) (pos 0) ≡ same_bool s (int_le (form_at x l) (pos 0))

-- a form with g times these factors is at most 0 exactly where the form with these factors and the constant divided by g, rounded up, is
abbrev pub DividedHolds : Type 0
DividedHolds = (x : ℕ → ℤ) (g : ℕ) (fs : List Factor) (c : ℤ) → 0 < g
    → int_le (sum_at x (scaled g fs) +ℤ c) (pos 0) ≡ int_le (sum_at x fs +ℤ neg_ℤ (floor_of (neg_ℤ c) (pos g))) (pos 0)

-- the quotient of a multiple
abbrev pub QuotientIsExact : Type 0
QuotientIsExact = (q : ℤ) (g : ℕ) → 0 < g → floor_of (pos g *ℤ q) (pos g) ≡ q
