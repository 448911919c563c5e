-- Whole linear forms: their values at points, and their least and greatest values over areas.
use Rattle.std.specs.Prelude.{◌≡◌, ◌≢◌, ◌≤◌, ◌<◌, ◌+◌, ℕ, ℤ, pos, ◌+ℤ◌, ◌*ℤ◌, int_lt, List, [], ◌∷◌, Some, slice_get, slice_index_or}
use Rattle.std.specs.Prelude.{length, All, unsigned_abs, if◌then◌else◌}
use Rattle.ft_base.specs.Interval.{IsWithin}
use Rattle.ft_linear.specs.meaning.Bounds.{value_most}

-- an unknown with its factor
abbrev pub Factor : Type 0
Factor = ℕ × ℤ

-- the factors of a form by unknown, and its constant
pub record LinView : Type 0 where
  pub factors : List (ℕ × ℤ)
  pub constant : ℤ

abbrev pub IsSmall : ℤ → Type 0
IsSmall z = unsigned_abs z ≤ value_most

-- unknowns that rise strictly from this one on, none with the factor 0
abbrev pub AreRising : ℕ → List Factor → Type 0
AreRising from [] = Unit {0}
AreRising from (f ∷ fs) = (from ≤ f.0) × (f.1 ≢ pos 0) × IsSmall f.1 × AreRising (f.0 + 1) fs

-- what a form's factors and its constant may be
pub record IsProper (factors : List (ℕ × ℤ)) (constant : ℤ) : Type 0 where
  pub few : length factors ≤ 10000
  pub rising : AreRising 0 factors
  pub small : IsSmall constant

-- a point gives each unknown a number; one that is a list of values gives 0 to those past its end
abbrev pub values_at : List ℤ → ℕ → ℤ
values_at values u = slice_index_or values u (pos 0)

abbrev pub sum_at : (ℕ → ℤ) → List Factor → ℤ
sum_at x [] = pos 0
sum_at x (f ∷ fs) = (f.1 *ℤ x f.0) +ℤ sum_at x fs

-- the factors, each so many times
abbrev pub scaled : ℕ → List Factor → List Factor
scaled t [] = []
scaled t (f ∷ fs) = (f.0, pos t *ℤ f.1) ∷ scaled t fs

-- the value of a form at a point
abbrev pub form_at : (ℕ → ℤ) → LinView → ℤ
form_at x l = sum_at x l.factors +ℤ l.constant

-- each unknown is below this number
abbrev pub HasUnknowns : ℕ → List Factor → Type 0
HasUnknowns count fs = All (λ f. f.0 < count) fs

-- a point of the area with these spans, each a pair of its least and its greatest number
abbrev pub InArea : List (ℤ × ℤ) → (ℕ → ℤ) → Type 0
InArea spans x = (u : ℕ) (s : ℤ × ℤ) → slice_get spans u ≡ Some s → IsWithin s (x u)

abbrev pub span_at : List (ℤ × ℤ) → ℕ → ℤ × ℤ
span_at spans u = slice_index_or spans u (pos 0, pos 0)

-- the greatest and the least value of a sum over an area: each factor times the end of its span that makes it so
abbrev pub high_end : ℤ → ℤ × ℤ → ℤ
high_end factor span = factor *ℤ (if int_lt factor (pos 0) then span.0 else span.1)

abbrev pub low_end : ℤ → ℤ × ℤ → ℤ
low_end factor span = factor *ℤ (if int_lt factor (pos 0) then span.1 else span.0)

abbrev pub most : List (ℤ × ℤ) → List Factor → ℤ
most spans [] = pos 0
most spans (f ∷ fs) = high_end f.1 (span_at spans f.0) +ℤ most spans fs

abbrev pub least : List (ℤ × ℤ) → List Factor → ℤ
least spans [] = pos 0
least spans (f ∷ fs) = low_end f.1 (span_at spans f.0) +ℤ least spans fs
