-- Turns of a search, and their counts.
use Rattle.std.proofs.Common.{◌≡◌, ◌⊎◌, inl, inr, sym, ap, subst, refl, ℕ, zero, suc, ◌+◌, ◌<◌, ◌≤◌, ℤ, Bool, true, false, cond, arith}
use Rattle.std.proofs.Common.{List, [], ◌∷◌, length, Option, Some, slice_index_or}
use Rattle.std.specs.Prelude.{unwrap_or, nat_lt}
use Rattle.std.proofs.lemmas.Bool.{cases_eq}
use Rattle.ft_linear.specs.meaning.Form.{span_at}
use Rattle.ft_linear.specs.meaning.Formula.{FormulaView}
use Rattle.ft_linear.specs.meaning.Halving.{is_half, single_lines}
use Rattle.ft_linear.specs.meaning.Part.{PartView}
use Rattle.ft_linear.specs.meaning.Rules.{Tightens}
use Rattle.ft_cert.specs.declared.step.Step.{Step}
use Rattle.ft_cert.specs.declared.step.Step.TheVariants as step
use Rattle.ft_cert.specs.declared.node.CertNode.TheVariants as node
use Rattle.ft_cert.specs.meaning.Parts.{cut_to, tight_span}
use Rattle.ft_cert.specs.walk.Steps.{IsStepOf, parts_by, room_by}
use Rattle.ft_search.specs.declared.halving.Single.{Single}
use Rattle.ft_search.specs.declared.turns.Turn.{Turn}
use Rattle.ft_search.specs.declared.kept.KeptNode.TheVariants as kept
use Rattle.ft_search.specs.meaning.Spent.{IsUnsettled, middle_of}
use Rattle.ft_search.specs.searching.Kept.{form_of}
use Rattle.ft_search.specs.searching.Single.{IsTight}
use Rattle.ft_cert.specs.walk.Waiting.{first_of}
use Rattle.ft_linear.specs.meaning.Form.{InArea}
use Rattle.ft_search.specs.searching.Walk.{AreInside}
use Rattle.ft_search.specs.searching.Turn.{IsTurn, halvings_by, splits_by, tightens_by}

-- a literal that tightens an unknown makes a turn
pub tight-turn : (f : FormulaView) (p : PartView) (enough halved : ℕ) (s : Single) (t : Turn) → IsTight f p s
    → t.node ≡ kept.Tightened s.unknown s.atom s.value → t.step ≡ step.Tighten s.unknown s.span
    → t.halves ≡ is_half (span_at p.spans s.unknown) s.span → IsTurn f p enough halved t
tight-turn f p enough halved s t tight node taken halves =
    subst (λ (t : Turn). IsTurn f p enough halved t) (λ i. record { node = sym node i; step = sym taken i; halves = sym halves i }) whole
  where
    same : tight_span f p s.unknown (single_lines s.atom s.value s.unknown (form_of f s.atom)) ≡ s.span
    same = ap (λ (o : Option (ℤ × ℤ)). unwrap_or o (span_at p.spans s.unknown)) tight.narrows

    whole : IsTurn f p enough halved (record {
      node = kept.Tightened s.unknown s.atom s.value;
      step = step.Tighten s.unknown s.span;
      halves = is_half (span_at p.spans s.unknown) s.span;
    })
    whole = record {
      holds = subst (λ (t : ℤ × ℤ). Tightens f p s.unknown (single_lines s.atom s.value s.unknown (form_of f s.atom)) t) (sym same) tight;
      lawful = tt;
      parts = ap (λ (t : ℤ × ℤ). cut_to p s.unknown t ∷ []) same;
      can = tight.unknown;
      splits = refl;
      halves = ap (λ (b : Bool). cond b 1 0) (ap (is_half (span_at p.spans s.unknown)) same);
      tightens = λ e. cc e;
    }

pub few-more : (s : Step) (used splits : ℕ) → used ≤ splits → ((splits_by s ≡ 1) × (used ≡ splits) → ⊥) → used + splits_by s ≤ splits
few-more step.Close used splits few other = omega (arith, few)
few-more (step.Cut u low high) used splits few other = elim (cases_eq used splits) [
  | inl same ↦ absurd (other (refl, same))
  | inr apart ↦ grind (arith, few, apart)
]
few-more (step.Decide a) used splits few other = elim (cases_eq used splits) [
  | inl same ↦ absurd (other (refl, same))
  | inr apart ↦ grind (arith, few, apart)
]
few-more (step.Tighten u span) used splits few other = omega (arith, few)

pub some-parts : (parts : List PartView) → (parts ≡ [] → ⊥) → 0 < length parts
some-parts [] h = absurd (h refl)
some-parts (p ∷ ps) h = omega arith

pub asked-is : (h e halved r : ℕ) → h ≡ halved → r ≡ e → h < e → nat_lt halved r ≡ true
asked-is h e halved r a b below = grind (arith, a, b, below)

two-parts : (p a b : PartView) (s : Step) → (a ∷ b ∷ []) ≡ parts_by p s → (tightens_by s ≡ 0) × (splits_by s ≡ 1)
two-parts p a b step.Close e = cc e
two-parts p a b (step.Cut u low high) e = (refl, refl)
two-parts p a b (step.Decide atom) e = (refl, refl)
two-parts p a b (step.Tighten u span) e = cc e

-- a cut in the middle makes a turn
module _ (f : FormulaView) (p : PartView) (u : ℕ) (v : ℤ) (s : Step) (is : IsStepOf f p (node.R u v) (Some s)) where
  pub cut-counts : (tightens_by s ≡ 0) × (splits_by s ≡ 1)
  cut-counts = two-parts p _ _ s is.1

  pub cut-turn : (enough halved : ℕ) → IsUnsettled f enough halved p → v ≡ middle_of (span_at p.spans u)
      → IsTurn f p enough halved (record { node = kept.Cut u v; step = s; halves = false })
  cut-turn enough halved unsettled middle = record {
    holds = is.0;
    lawful = (unsettled, middle);
    parts = is.1;
    can = is.2;
    splits = sym cut-counts.1;
    halves = refl;
    tightens = λ e. refl;
  }

-- a span that is read is that of the unknown
pub read-span : (spans : List (ℤ × ℤ)) (u : ℕ) (s d : ℤ × ℤ) → u < length spans → s ≡ slice_index_or spans u s → s
    ≡ slice_index_or spans u d
read-span [] u s d below e = absurd (omega (arith, below))
read-span (t ∷ spans) zero s d below e = e
read-span (t ∷ spans) (suc u) s d below e = read-span spans u s d (omega (arith, below)) e

pub room-is : (s : Step) → room_by s ≡ splits_by s + tightens_by s
room-is step.Close = refl
room-is (step.Cut u low high) = refl
room-is (step.Decide a) = refl
room-is (step.Tighten u span) = refl

pub halves-less : (s : Step) (b : Bool) → (tightens_by s ≡ 0 → b ≡ false) → halvings_by b ≤ tightens_by s
halves-less s false h = omega arith
halves-less step.Close true h = cc (h refl)
halves-less (step.Cut u low high) true h = cc (h refl)
halves-less (step.Decide a) true h = cc (h refl)
halves-less (step.Tighten u span) true h = omega arith

-- a tightening that is allowed keeps the counts within their limits
pub limits-more : (s : Step) (b : Bool) (tight halved others enough : ℕ) → tight ≤ halved + others → tight ≤ enough + others
    → (tightens_by s ≡ 1 → ((tight < halved + others) × (tight < enough + others)) ⊎ ((halved < enough) × (b ≡ true)))
    → (tight + tightens_by s ≤ halved + halvings_by b + others) × (tight + tightens_by s ≤ enough + others)
limits-more step.Close b tight halved others enough few limit h = (omega (arith, few), omega (arith, limit))
limits-more (step.Cut u low high) b tight halved others enough few limit h = (omega (arith, few), omega (arith, limit))
limits-more (step.Decide a) b tight halved others enough few limit h = (omega (arith, few), omega (arith, limit))
limits-more (step.Tighten u span) b tight halved others enough few limit h = elim (h refl) [
  | inl x ↦ let m = x.0 in let n = x.1 in (omega (arith, m), omega (arith, n))
  | inr y ↦
      let m = y.0 in
      let one : halvings_by b ≡ 1 = ap (λ (c : Bool). halvings_by c) y.1 in
      (omega (arith, few, one), omega (arith, few, m))
]

pub first-inside : (spans : List (ℤ × ℤ)) (x : ℕ → ℤ) (parts : List PartView) → 0 < length parts → AreInside spans x parts
    → InArea (first_of parts).spans x → InArea spans x
first-inside spans x [] some all = absurd (omega (arith, some))
first-inside spans x (p ∷ ps) some all = all.0
