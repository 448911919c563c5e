-- Sums of forced literals and bounds, each times a multiplier, and what they say.
use Rattle.std.specs.Prelude.{◌≡◌, ◌≢◌, ◌<◌, ℕ, ℤ, pos, negsuc, neg_ℤ, ◌+ℤ◌, ◌-ℤ◌, ◌*ℤ◌, ◌<ℤ◌, int_lt, int_le, nat_eq, nat_le, Bool, true}
use Rattle.std.specs.Prelude.{false, ◌&&◌, List, [], ◌∷◌, map, length, Option, Some, None, is_some, slice_get, if◌then◌else◌}
use Rattle.std.specs.List.{list_all}
use Rattle.std.specs.Option.{option_map}
use Rattle.ft_base.specs.Division.{floor_of}
use Rattle.ft_linear.specs.meaning.Bounds.{times_most}
use Rattle.ft_linear.specs.declared.lines.Line.{Line}
use Rattle.ft_linear.specs.declared.lines.Line.TheVariants.{Atom, Upper, Lower}
use Rattle.ft_linear.specs.meaning.Form.{Factor, LinView, span_at}
use Rattle.ft_linear.specs.meaning.Formula.{FormulaView, atom_at}
use Rattle.ft_linear.specs.meaning.Part.{PartView, forced}

-- 1 - L, which is at most 0 where L isn't
abbrev pub negated : LinView → LinView
negated l = record { factors = map (λ f. (f.0, neg_ℤ f.1)) l.factors; constant = pos 1 -ℤ l.constant }

abbrev pub literal_form : Bool → LinView → LinView
literal_form true l = l
literal_form false l = negated l

-- x - hi and lo - x
abbrev pub upper_form : ℕ → ℤ × ℤ → LinView
upper_form u s = record { factors = (u, pos 1) ∷ []; constant = neg_ℤ s.1 }

abbrev pub lower_form : ℕ → ℤ × ℤ → LinView
lower_form u s = record { factors = (u, negsuc 0) ∷ []; constant = s.0 }

-- the form of a line, at most 0: a forced literal of an atom, or a bound of an unknown
abbrev pub line_form : FormulaView → PartView → Line → Option LinView
line_form f p (Atom number value times) =
    if forced f p number value then option_map (literal_form value) (slice_get f.atoms number) else None
line_form f p (Upper unknown times) = option_map (upper_form unknown) (slice_get p.spans unknown)
line_form f p (Lower unknown times) = option_map (lower_form unknown) (slice_get p.spans unknown)

abbrev pub times_of : Line → ℕ
times_of (Atom number value times) = times
times_of (Upper unknown times) = times
times_of (Lower unknown times) = times

abbrev pub is_multiplier : ℕ → Bool
is_multiplier times = nat_le 1 times && nat_le times times_most

abbrev pub is_line : FormulaView → PartView → Line → Bool
is_line f p l = is_multiplier (times_of l) && is_some (line_form f p l)

-- 1 to 4,300 lines, each with a form and a multiplier from 1 to 2^62
abbrev pub are_lines : FormulaView → PartView → List Line → Bool
are_lines f p ls = nat_le 1 (length ls) && nat_le (length ls) 4300 && list_all (is_line f p) ls

-- the factor of an unknown in a sum of factors
abbrev pub factor_of : ℕ → List Factor → ℤ
factor_of u [] = pos 0
factor_of u (f ∷ fs) = (if nat_eq f.0 u then f.1 else pos 0) +ℤ factor_of u fs

abbrev pub factors_in : Option LinView → List Factor
factors_in None = []
factors_in (Some l) = l.factors

abbrev pub constant_in : Option LinView → ℤ
constant_in None = pos 0
constant_in (Some l) = l.constant

-- the sum of the lines, each times its multiplier: the factor of an unknown, and the constant
abbrev pub total_factor : FormulaView → PartView → ℕ → List Line → ℤ
total_factor f p u [] = pos 0
total_factor f p u (l ∷ ls) = (pos (times_of l) *ℤ factor_of u (factors_in (line_form f p l))) +ℤ total_factor f p u ls

abbrev pub total_constant : FormulaView → PartView → List Line → ℤ
total_constant f p [] = pos 0
total_constant f p (l ∷ ls) = (pos (times_of l) *ℤ constant_in (line_form f p l)) +ℤ total_constant f p ls

-- the lines add up to a positive constant with no unknown
pub record Contradicts (f : FormulaView) (p : PartView) (ls : List Line) : Type 0 where
  pub lines : are_lines f p ls ≡ true
  pub cancel : (u : ℕ) → total_factor f p u ls ≡ pos 0
  pub positive : pos 0 <ℤ total_constant f p ls

-- a span with another upper or lower end, where that is smaller and not empty
abbrev pub up_to : ℤ × ℤ → ℤ → Option (ℤ × ℤ)
up_to s hi = if int_le s.0 hi && int_lt hi s.1 then Some (s.0, hi) else None

abbrev pub down_to : ℤ × ℤ → ℤ → Option (ℤ × ℤ)
down_to s lo = if int_lt s.0 lo && int_le lo s.1 then Some (lo, s.1) else None

-- the numbers x of a span with g*x + c <= 0, by floor or ceiling, where that is a smaller span and not empty
abbrev pub narrowed : ℤ → ℤ → ℤ × ℤ → Option (ℤ × ℤ)
narrowed g c s =
    if int_lt (pos 0) g then up_to s (floor_of (neg_ℤ c) g)
    else if int_lt g (pos 0) then down_to s (neg_ℤ (floor_of (neg_ℤ c) (neg_ℤ g)))
    else None

-- the lines add up to g*x + c <= 0 with this unknown alone, which leaves it this span
pub record Tightens (f : FormulaView) (p : PartView) (u : ℕ) (ls : List Line) (span : ℤ × ℤ) : Type 0 where
  pub unknown : u < length p.spans
  pub lines : are_lines f p ls ≡ true
  pub alone : (v : ℕ) → v ≢ u → total_factor f p v ls ≡ pos 0
  pub narrows : narrowed (total_factor f p u ls) (total_constant f p ls) (span_at p.spans u) ≡ Some span

-- each forced literal is true at the point
abbrev pub HoldsForced : FormulaView → PartView → (ℕ → ℤ) → Type 0
HoldsForced f p x = (a : ℕ) (s : Bool) → forced f p a s ≡ true → atom_at f.atoms x a ≡ s
