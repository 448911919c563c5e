-- The areas of the parts that wait lie within the area.
use Rattle.std.proofs.Common.{◌≡◌, inl, inr, subst, refl, ℕ, zero, suc, ◌<◌, ℤ, pos, ◌+ℤ◌, ◌≤ℤ◌, ◌<ℤ◌}
use Rattle.std.proofs.Common.{Bool, true, false, ◌&&◌, List, [], ◌∷◌, ◌++◌, length, Some, slice_get, arith}
use Rattle.std.specs.Prelude.{slice_set, int_lt, int_le}
use Rattle.std.proofs.lemmas.Bool.{cases_Bool}
use Rattle.std.proofs.lemmas.Int.{ints}
use Rattle.std.proofs.lemmas.Option.{cond_some}
use Rattle.ft_base.specs.Interval.{IsWithin}
use Rattle.ft_linear.specs.meaning.Form.{InArea, span_at}
use Rattle.ft_linear.specs.meaning.Formula.{FormulaView}
use Rattle.ft_linear.specs.meaning.Part.{PartView}
use Rattle.ft_linear.specs.meaning.Rules.{narrowed, up_to, down_to, total_factor, total_constant}
use Rattle.ft_cert.specs.declared.node.CertNode.{CertNode}
use Rattle.ft_cert.specs.declared.node.CertNode.TheVariants as node
use Rattle.ft_cert.specs.meaning.Evidence.{NodeHolds}
use Rattle.ft_cert.specs.meaning.Parts.{tight_span}
use Rattle.ft_cert.specs.walk.Waiting.{children}
use Rattle.ft_search.specs.searching.Walk.{AreInside}

both-true : (a b : Bool) → (a && b) ≡ true → (a ≡ true) × (b ≡ true)
both-true true true e = (refl, refl)
both-true true false e = cc e
both-true false b e = cc e

-- the numbers of one span are numbers of another
abbrev pub Inside : ℤ × ℤ → ℤ × ℤ → Type 0
Inside s t = (t.0 ≤ℤ s.0) × (s.1 ≤ℤ t.1)

within-inside : (s t : ℤ × ℤ) (y : ℤ) → Inside s t → IsWithin s y → IsWithin t y
within-inside s t y i w = let a = i.0 in let b = i.1 in let c = w.0 in let d = w.1 in (omega (arith, ints, a, c), omega (arith, ints, b, d))

-- one span in place of one that it lies in
wider : (spans : List (ℤ × ℤ)) (x : ℕ → ℤ) (u : ℕ) (s : ℤ × ℤ) → u < length spans → Inside s (span_at spans u)
    → InArea (slice_set spans u s) x → InArea spans x
wider [] x u s below inside area = area
wider (t ∷ spans) x zero s below inside area = (λ v r e. first v r e)
  where
    first : (v : ℕ) (r : ℤ × ℤ) → slice_get (t ∷ spans) v ≡ Some r → IsWithin r (x v)
    first zero r e = let same : t ≡ r = cc e in subst (λ (r : ℤ × ℤ). IsWithin r (x 0)) same
        (within-inside s t (x 0) inside (area 0 s refl))
    first (suc v) r e = area (suc v) r e
wider (t ∷ spans) x (suc u) s below inside area = rest (wider spans (λ w. x (suc w)) u s (omega (arith, below)) inside
    (λ w q is. area (suc w) q is))
  where
    rest : InArea spans (λ w. x (suc w)) → (v : ℕ) (r : ℤ × ℤ) → slice_get (t ∷ spans) v ≡ Some r → IsWithin r (x v)
    rest more zero r e = area 0 r e
    rest more (suc v) r e = more v r e

inside-up : (s t : ℤ × ℤ) (hi : ℤ) → up_to s hi ≡ Some t → Inside t s
inside-up s t hi e = let (test, is) = cond_some (int_le s.0 hi && int_lt hi s.1) (s.0, hi) t e in
    subst (λ (t : ℤ × ℤ). Inside t s) is (so s.0 hi s.1 (both-true (int_le s.0 hi) (int_lt hi s.1) test))
  where
    so : (a b c : ℤ) → (int_le a b ≡ true) × (int_lt b c ≡ true) → (a ≤ℤ a) × (b ≤ℤ c)
    so a b c h = let r = h.1 in (omega (arith, ints), grind (arith, ints, r))

inside-down : (s t : ℤ × ℤ) (lo : ℤ) → down_to s lo ≡ Some t → Inside t s
inside-down s t lo e = let (test, is) = cond_some (int_lt s.0 lo && int_le lo s.1) (lo, s.1) t e in
    subst (λ (t : ℤ × ℤ). Inside t s) is (so s.0 lo s.1 (both-true (int_lt s.0 lo) (int_le lo s.1) test))
  where
    so : (a b c : ℤ) → (int_lt a b ≡ true) × (int_le b c ≡ true) → (a ≤ℤ b) × (c ≤ℤ c)
    so a b c h = let l = h.0 in (grind (arith, ints, l), omega (arith, ints))

pub inside-narrowed : (g c : ℤ) (s t : ℤ × ℤ) → narrowed g c s ≡ Some t → Inside t s
inside-narrowed g c s t e = elim (cases_Bool (int_lt (pos 0) g)) [
  | inl up ↦ inside-up s t _ (rw up at e)
  | inr other ↦ elim (cases_Bool (int_lt g (pos 0))) [
    | inl down ↦ inside-down s t _ (rw (other, down) at e)
    | inr none ↦ cc (rw (other, none) at e)
  ]
]

pub nonempty-narrowed : (g c : ℤ) (s t : ℤ × ℤ) → narrowed g c s ≡ Some t → t.0 ≤ℤ t.1
nonempty-narrowed g c s t e = elim (cases_Bool (int_lt (pos 0) g)) [
  | inl up ↦ by-up s t _ (rw up at e)
  | inr other ↦ elim (cases_Bool (int_lt g (pos 0))) [
    | inl down ↦ by-down s t _ (rw (other, down) at e)
    | inr none ↦ cc (rw (other, none) at e)
  ]
]
  where
    first : (a b c : ℤ) → (int_le a b ≡ true) × (int_lt b c ≡ true) → a ≤ℤ b
    first a b c h = let r = h.0 in grind (arith, ints, r)

    second : (a b c : ℤ) → (int_lt a b ≡ true) × (int_le b c ≡ true) → b ≤ℤ c
    second a b c h = let r = h.1 in grind (arith, ints, r)

    by-up : (s t : ℤ × ℤ) (hi : ℤ) → up_to s hi ≡ Some t → t.0 ≤ℤ t.1
    by-up s t hi e = let (test, is) = cond_some (int_le s.0 hi && int_lt hi s.1) (s.0, hi) t e in
        subst (λ (t : ℤ × ℤ). t.0 ≤ℤ t.1) is (first s.0 hi s.1 (both-true (int_le s.0 hi) (int_lt hi s.1) test))

    by-down : (s t : ℤ × ℤ) (lo : ℤ) → down_to s lo ≡ Some t → t.0 ≤ℤ t.1
    by-down s t lo e = let (test, is) = cond_some (int_lt s.0 lo && int_le lo s.1) (lo, s.1) t e in
        subst (λ (t : ℤ × ℤ). t.0 ≤ℤ t.1) is (second s.0 lo s.1 (both-true (int_lt s.0 lo) (int_le lo s.1) test))

module _ (f : FormulaView) (spans : List (ℤ × ℤ)) (x : ℕ → ℤ) where
  pub children-inside : (p : PartView) (n : CertNode) (ps : List PartView) → NodeHolds f p n → AreInside spans x (p ∷ ps)
      → AreInside spans x (children f p n ++ ps)
  children-inside p node.F ps h all = all.1
  children-inside p node.L ps h all = all.1
  children-inside p (node.S lines) ps h all = all.1
  children-inside p (node.R u v) ps h all = (
    λ area. all.0 (wider p.spans x u ((span_at p.spans u).0, v) h.unknown (low (span_at p.spans u).0 v (span_at p.spans u).1 h.below) area),
    (
      λ area. all.0 (wider p.spans x u (v +ℤ pos 1, (span_at p.spans u).1) h.unknown
          (high (span_at p.spans u).0 v (span_at p.spans u).1 h.from) area),
      all.1,
    ),
  )
    where
      low : (a b c : ℤ) → b <ℤ c → (a ≤ℤ a) × (b ≤ℤ c)
      low a b c h = (omega (arith, ints), omega (arith, ints, h))

      high : (a b c : ℤ) → a ≤ℤ b → (a ≤ℤ (b +ℤ pos 1)) × (c ≤ℤ c)
      high a b c h = (omega (arith, ints, h), omega (arith, ints))
  children-inside p (node.C a) ps h all = (all.0, (all.0, all.1))
  children-inside p (node.T u lines) ps h all = (
    λ area. all.0 (wider p.spans x u (tight_span f p u lines) h.unknown
        (inside-narrowed (total_factor f p u lines) (total_constant f p lines) (span_at p.spans u) (tight_span f p u lines) h.narrows)
        area),
    all.1,
  )
