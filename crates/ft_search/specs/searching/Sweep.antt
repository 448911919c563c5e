-- Tightenings one after another, by literals that are all forced at the part at which they begin.
use Rattle.std.specs.Prelude.{◌≡◌, ◌≤◌, ◌<◌, ◌≤ℤ◌, ℕ, true, false, List, [], ◌∷◌, Some, length, slice_get}
use Rattle.ft_linear.specs.meaning.Form.{HasUnknowns, IsProper, LinView, span_at}
use Rattle.ft_linear.specs.meaning.Formula.{FormulaView}
use Rattle.ft_linear.specs.meaning.Halving.{single_span}
use Rattle.ft_base.specs.Three.{is_no}
use Rattle.ft_linear.specs.meaning.Forced.{value_of}
use Rattle.ft_linear.specs.meaning.Part.{PartView, atom_value, forced}
use Rattle.ft_linear.specs.meaning.Rules.{literal_form}
use Rattle.ft_cert.specs.meaning.Parts.{cut_to}
use Rattle.ft_search.specs.declared.halving.Single.{Single}
use Rattle.ft_search.specs.declared.sweeping.Literal.{Literal}
use Rattle.ft_search.specs.declared.sweeping.Sweep.{Sweep}

abbrev pub tightened : PartView → Single → PartView
tightened p s = cut_to p s.unknown s.span

-- the part after these tightenings
abbrev pub after : PartView → List Single → PartView
after p [] = p
after p (s ∷ ss) = after (tightened p s) ss

-- a literal that is forced at the part p leaves an unknown this span at the part q
pub record IsSweepOf (f : FormulaView) (p q : PartView) (s : Single) : Type 0 where
  pub l : LinView
  pub form : slice_get f.atoms s.atom ≡ Some l
  pub at_first : forced f p s.atom s.value ≡ true
  pub few : length l.factors ≤ 3
  pub proper : IsProper l.factors l.constant
  pub has : HasUnknowns (length q.spans) l.factors
  pub unknown : s.unknown < length q.spans
  pub span : single_span q.spans s.unknown (literal_form s.value l) ≡ Some s.span

-- each of these at its own part, from the part q on
abbrev pub AreSweep : FormulaView → PartView → PartView → List Single → Type 0
AreSweep f p q [] = Unit {0}
AreSweep f p q (s ∷ ss) = IsSweepOf f p q s × AreSweep f p (tightened q s) ss

-- the same decisions, and spans within those of another part, none of them empty
pub record IsNarrower (p q : PartView) : Type 0 where
  pub decided : q.decided ≡ p.decided
  pub long : length q.spans ≡ length p.spans
  pub low : (u : ℕ) → (span_at p.spans u).0 ≤ℤ (span_at q.spans u).0
  pub high : (u : ℕ) → (span_at q.spans u).1 ≤ℤ (span_at p.spans u).1
  pub some : (u : ℕ) → (span_at q.spans u).0 ≤ℤ (span_at q.spans u).1

-- these tightenings lead from a part to another
pub record IsSwept (f : FormulaView) (p : PartView) (ss : List Single) (q : PartView) : Type 0 where
  pub are : AreSweep f p p ss
  pub ends : after p ss ≡ q
  pub full : (u : ℕ) → (span_at p.spans u).0 ≤ℤ (span_at p.spans u).1

-- the root's value isn't No
abbrev pub IsOpen : FormulaView → PartView → Type 0
IsOpen f p = is_no (value_of (atom_value f p) f.root) ≡ false

-- a forced literal of at most three unknowns
pub record IsLiteral (f : FormulaView) (p : PartView) (t : Literal) : Type 0 where
  pub atom : t.atom < length f.atoms
  pub at_first : forced f p t.atom t.value ≡ true
  pub few : (l : LinView) → slice_get f.atoms t.atom ≡ Some l → length l.factors ≤ 3

-- room for sweeps over parts of a formula with so many unknowns
pub record IsSweepFor (f : FormulaView) (unknowns : ℕ) (w : Sweep) : Type 0 where
  pub spans : length w.part.spans ≡ unknowns
  pub decided : length w.part.decided ≡ length f.atoms
  pub start : w.start ≡ 0
