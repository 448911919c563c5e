-- Single literals that halve an unknown.
use Rattle.std.specs.Prelude.{◌≡◌, ◌≢◌, ◌<◌, ℕ, ℤ, pos, Bool, true, List, Some, length}
use Rattle.ft_linear.specs.meaning.Form.{LinView, span_at}
use Rattle.ft_linear.specs.meaning.Formula.{FormulaView}
use Rattle.ft_linear.specs.meaning.Halving.{Halves, is_half, single_lines, single_span}
use Rattle.ft_linear.specs.meaning.Part.{PartView}
use Rattle.ft_linear.specs.meaning.Rules.{Tightens, factor_of, literal_form}
use Rattle.ft_search.specs.declared.halving.Single.{Single}
use Rattle.ft_search.specs.searching.Kept.{form_of}

-- a form leaves an unknown this span, which has at most half of its values
abbrev pub LeavesHalf : List (ℤ × ℤ) → LinView → ℕ → ℤ × ℤ → Type 0
LeavesHalf spans l u s = (single_span spans u l ≡ Some s) × (is_half (span_at spans u) s ≡ true)

pub record IsByForm (spans : List (ℤ × ℤ)) (l : LinView) (a : ℕ) (v : Bool) (s : Single) : Type 0 where
  pub atom : s.atom ≡ a
  pub value : s.value ≡ v
  pub unknown : s.unknown < length spans
  pub half : LeavesHalf spans (literal_form v l) s.unknown s.span

abbrev pub NoneByForm : List (ℤ × ℤ) → LinView → Bool → Type 0
NoneByForm spans l v = (u : ℕ) (s : ℤ × ℤ) → factor_of u l.factors ≢ pos 0 → LeavesHalf spans (literal_form v l) u s → ⊥

-- the literal's line leaves an unknown of the part at most half of its values
pub record IsSingle (f : FormulaView) (p : PartView) (s : Single) : Type 0 where
  pub tightens : Tightens f p s.unknown (single_lines s.atom s.value s.unknown (form_of f s.atom)) s.span
  pub half : is_half (span_at p.spans s.unknown) s.span ≡ true

-- the literal's line leaves an unknown of the part this span
abbrev pub IsTight : FormulaView → PartView → Single → Type 0
IsTight f p s = Tightens f p s.unknown (single_lines s.atom s.value s.unknown (form_of f s.atom)) s.span

-- no unknown is halved by this literal
abbrev pub NoneBy : FormulaView → PartView → ℕ → Bool → Type 0
NoneBy f p a s = (u : ℕ) → Halves f p a s u → ⊥

-- nor by any literal of these atoms
abbrev pub NoneBelow : FormulaView → PartView → ℕ → Type 0
NoneBelow f p n = (a : ℕ) → a < n → (s : Bool) → NoneBy f p a s
