-- Single literals that halve an unknown.
use Rattle.std.proofs.Common.{◌≡◌, ◌∙◌, inl, inr, sym, ap, subst, refl, ℕ, suc, ◌+◌, ◌<◌, ◌≤◌, pos, ◌+ℤ◌, Bool, true, false}
use Rattle.std.proofs.Common.{List, [], ◌∷◌, length, slice_index_or, Option, Some, None, slice_get, arith}
use Rattle.std.specs.Prelude.{is_some, IfNone, IfSome, nat_eq, unwrap_or}
use Rattle.std.proofs.lemmas.Bool.{cases_Bool, cases_eq}
use Rattle.std.proofs.lemmas.Int.{ints}
use Rattle.std.proofs.lemmas.Option.{slice_get_read}
use Rattle.ft_linear.specs.declared.lines.Line.{Line}
use Rattle.ft_linear.specs.laws.Sums.{SinglesTighten}
use Rattle.ft_linear.specs.meaning.Form.{Factor, HasUnknowns, IsProper, LinView}
use Rattle.ft_linear.specs.meaning.Formula.{FormulaView}
use Rattle.ft_linear.specs.meaning.Halving.{Halves, single_lines}
use Rattle.ft_linear.specs.meaning.Part.{PartView, forced}
use Rattle.ft_linear.specs.meaning.Rules.{Tightens, factor_of}
use Rattle.ft_search.specs.declared.halving.Single.{Single}
use Rattle.ft_search.specs.searching.Kept.{form_of}
use Rattle.ft_search.specs.searching.Single.{IsByForm, IsSingle, NoneBelow, NoneBy, NoneByForm}

-- a literal of this form, which is forced
module _ (law : SinglesTighten) (f : FormulaView) (p : PartView) (a : ℕ) (v : Bool) (l : LinView) (form : slice_get f.atoms a ≡ Some l)
    (proper : IsProper l.factors l.constant) (has : HasUnknowns (length p.spans) l.factors) (few : length l.factors ≤ 3)
    (so : forced f p a v ≡ true) where
  pub single-of : (s : Single) → IsByForm p.spans l a v s → IsSingle f p s
  single-of s by =
      let tight : Tightens f p s.unknown (single_lines a v s.unknown l) s.span
      = (law f p a v s.unknown l s.span form proper has few so by.unknown).1 by.half.0 in
      let here : form_of f a ≡ l = ap (λ (o : Option LinView). unwrap_or o (record { factors = []; constant = pos 0 })) form in
      let lines : single_lines s.atom s.value s.unknown (form_of f s.atom) ≡ single_lines a v s.unknown l
      = (λ i. single_lines (by.atom i) (by.value i) s.unknown (form_of f (by.atom i))) ∙ ap (single_lines a v s.unknown) here in
      record {
        tightens = subst (λ (ls : List Line). Tightens f p s.unknown ls s.span) (sym lines) tight;
        half = by.half.1;
      }

  pub none-of : NoneByForm p.spans l v → NoneBy f p a v
  none-of none u h =
      let same : h.l ≡ l = cc (sym h.form ∙ form) in
      let tight : Tightens f p u (single_lines a v u l) h.span
      = subst (λ (m : LinView). Tightens f p u (single_lines a v u m) h.span) same h.tightens in
      none u h.span (λ e. h.has_unknown (ap (λ (m : LinView). factor_of u m.factors) same ∙ e))
      ((law f p a v u l h.span form proper has few so h.tightens.unknown).0 tight, h.half)

pub same-form : (f : FormulaView) (atoms : List LinView) (a : ℕ) (l : LinView) → atoms ≡ f.atoms → a < length atoms
    → l ≡ slice_index_or atoms a l → slice_get f.atoms a ≡ Some l
same-form f atoms a l same within item =
    ap (λ (ls : List LinView). slice_get ls a) (sym same) ∙ slice_get_read atoms (length atoms) a l refl within item

-- an unknown of a form is that of one of its factors
pub own-factor : (u : ℕ) (fs : List Factor) → (factor_of u fs ≡ pos 0 → ⊥)
    → (k : ℕ) × (k < length fs) × ((slice_index_or fs k (0, pos 0)).0 ≡ u)
own-factor u [] h = absurd (h refl)
own-factor u (f ∷ fs) h = elim (cases_Bool (nat_eq f.0 u)) [
  | inl same ↦ (0, omega arith, grind (arith, same))
  | inr none ↦
      let zero-more : pos 0 +ℤ factor_of u fs ≡ factor_of u fs = omega (arith, ints) in
      let (k, within, is) = own-factor u fs (λ e. h (rw none (zero-more ∙ e))) in
      (suc k, omega (arith, within), is)
]

pub below-more : (f : FormulaView) (p : PartView) (n : ℕ) → NoneBelow f p n → NoneBy f p n true → NoneBy f p n false → NoneBelow f p (n + 1)
below-more f p n all yes_none no_none a below s u h = elim (cases_eq a n) [
  | inl same ↦ by-sign s (subst (λ (k : ℕ). Halves f p k s u) same h)
  | inr other ↦ all a (grind (arith, below, other)) s u h
]
  where
    by-sign : (s : Bool) → Halves f p n s u → ⊥
    by-sign true h = yes_none u h
    by-sign false h = no_none u h

pub from-none : {X : Type 0} (P : Type 0) (o : Option X) → is_some o ≡ false → IfNone o P → P
from-none P None e h = h
from-none P (Some x) e h = cc e

pub some-weaker : {X : Type 0} (P W : X → Type 0) (o : Option X) → IfSome o P → ((x : X) → P x → W x) → IfSome o W
some-weaker P W None h weaker = tt
some-weaker P W (Some x) h weaker = weaker x h

pub none-weaker : {X : Type 0} (P W : Type 0) (o : Option X) → IfNone o P → (P → W) → IfNone o W
none-weaker P W None h weaker = weaker h
none-weaker P W (Some x) h weaker = tt
