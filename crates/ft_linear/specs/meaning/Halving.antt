-- Forced literals that leave an unknown at most half of its values by their own line and the bounds of their other unknowns.
use Rattle.std.specs.Prelude.{◌≡◌, ◌≢◌, ◌≤◌, ℕ, ℤ, pos, ◌+ℤ◌, ◌-ℤ◌, ◌*ℤ◌, int_lt, int_le, nat_eq, not, Bool, true, List, ◌∷◌, map, filter}
use Rattle.std.specs.Prelude.{length, Option, Some, slice_get, unsigned_abs, if◌then◌else◌}
use Rattle.ft_linear.specs.declared.lines.Line.{Line}
use Rattle.ft_linear.specs.declared.lines.Line.TheVariants.{Atom, Upper, Lower}
use Rattle.ft_linear.specs.meaning.Form.{Factor, LinView, least, low_end, span_at}
use Rattle.ft_linear.specs.meaning.Formula.{FormulaView}
use Rattle.ft_linear.specs.meaning.Part.{PartView, forced}
use Rattle.ft_linear.specs.meaning.Rules.{Tightens, factor_of, literal_form, narrowed}

-- the bound that cancels a factor
abbrev pub cancelling : Factor → Line
cancelling g = if int_lt (pos 0) g.1 then Lower g.0 (unsigned_abs g.1) else Upper g.0 (unsigned_abs g.1)

abbrev pub is_other : ℕ → Factor → Bool
is_other u g = not (nat_eq g.0 u)

-- a literal's line once, and for each of its unknowns but this one the bound that cancels it
abbrev pub single_lines : ℕ → Bool → ℕ → LinView → List Line
single_lines a s u l = Atom a s 1 ∷ map cancelling (filter (is_other u) (literal_form s l).factors)

-- what the form m of a single literal leaves an unknown with the low ends of its other unknowns: one pass over the form makes their sum
abbrev pub single_span : List (ℤ × ℤ) → ℕ → LinView → Option (ℤ × ℤ)
single_span spans u m =
    narrowed (factor_of u m.factors) (m.constant +ℤ (least spans m.factors -ℤ low_end (factor_of u m.factors) (span_at spans u)))
    (span_at spans u)

-- at most half of the values
abbrev pub is_half : ℤ × ℤ → ℤ × ℤ → Bool
is_half old new = int_le (pos 2 *ℤ (new.1 -ℤ new.0 +ℤ pos 1)) (old.1 -ℤ old.0 +ℤ pos 1)

-- a forced literal of at most three unknowns leaves one of them at most half of its values
pub record Halves (f : FormulaView) (p : PartView) (a : ℕ) (s : Bool) (u : ℕ) : Type 0 where
  pub l : LinView
  pub span : ℤ × ℤ
  pub form : slice_get f.atoms a ≡ Some l
  pub is_forced : forced f p a s ≡ true
  pub few : length l.factors ≤ 3
  pub has_unknown : factor_of u l.factors ≢ pos 0
  pub tightens : Tightens f p u (single_lines a s u l) span
  pub half : is_half (span_at p.spans u) span ≡ true

abbrev pub NoneHalves : FormulaView → PartView → Type 0
NoneHalves f p = (a : ℕ) (s : Bool) (u : ℕ) → Halves f p a s u → ⊥
