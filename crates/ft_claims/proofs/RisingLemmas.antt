-- The unknowns of forms rise strictly, and none has the factor 0.
use Rattle.std.proofs.Common.{◌≡◌, ◌≢◌, ◌∙◌, sym, ap, subst, refl, ℕ, zero, suc, ◌+◌, ◌*◌, ◌≤◌, ℤ, pos, negsuc, ◌+ℤ◌, ◌*ℤ◌, false, List, []}
use Rattle.std.proofs.Common.{◌∷◌, map, arith, ⊎_elim, true≢false}
use Rattle.std.specs.Prelude.{nat_lt, nat_eq, unsigned_abs}
use Rattle.std.specs.List.{position_or_len}
use Rattle.std.specs.Ordering.{int_eq}
use Rattle.std.proofs.lemmas.Int.{ints, unsigned_abs-mul}
use Rattle.std.proofs.Math.Nat.{mul-suc}
use Rattle.std.proofs.lemmas.Bool.{cases_Bool, cond-true, cond-false, ltb-false, ltb-true}
use Rattle.std.proofs.lemmas.Bool.Decides.{Decides-int_eq, Decides-eqb}
use Rattle.ft_base.specs.Division.{floor_of}
use Rattle.ft_linear.specs.meaning.Form.{Factor, LinView}
use Rattle.ft_claims.specs.declared.claim.Sym.{Sym}
use Rattle.ft_claims.specs.meaning.Forms.{Rises, constant_form, unknown, with_front, with_factor, with_factors, times_factors, Entries}
use Rattle.ft_claims.specs.meaning.Forms.{same_entry, is_constant, quotient, gathered}
use Rattle.ft_claims.proofs.GatherLemmas.{gather_induction}

pub lower : (from at : ℕ) (fs : List Factor) → at ≤ from → Rises from fs → Rises at fs
lower from at [] l h = tt
lower from at (f ∷ fs) l h = (omega (arith, l, h.0), h.1, h.2)

not_zero : (z : ℤ) → int_eq z (pos 0) ≡ false → z ≢ pos 0
not_zero z e is = absurd (true≢false (sym ((Decides-int_eq z (pos 0)).1 is) ∙ e))

front-rises : (from u : ℕ) (z : ℤ) (fs : List Factor) → from ≤ u → Rises (u + 1) fs → Rises from (with_front u z fs)
front-rises from u z fs l h = ⊎_elim
    (λ is. subst (Rises from) (sym (cond-true (int_eq z (pos 0)) fs ((u, z) ∷ fs) is)) (lower (u + 1) from fs (omega (arith, l)) h))
    (λ isnt. subst (Rises from) (sym (cond-false (int_eq z (pos 0)) fs ((u, z) ∷ fs) isnt)) (l, not_zero z isnt, h))
    (cases_Bool (int_eq z (pos 0)))

pub factor-rises : (from u : ℕ) (z : ℤ) (fs : List Factor) → from ≤ u → Rises from fs → Rises from (with_factor u z fs)
factor-rises from u z [] l h = front-rises from u z [] l tt
factor-rises from u z (g ∷ gs) l h = ⊎_elim
    (λ less. subst (Rises from) (sym (cond-true (nat_lt u g.0) _ _ less))
    (front-rises from u z (g ∷ gs) l (let b = ltb-true u g.0 less in omega (arith, b), h.1, h.2)))
    (λ not_less. subst (Rises from) (sym (cond-false (nat_lt u g.0) _ _ not_less)) (⊎_elim
    (λ same. let e = (Decides-eqb u g.0).0 same in
    subst (Rises from) (sym (cond-true (nat_eq u g.0) _ _ same)) (front-rises from u (z +ℤ g.1) gs l
    (subst (λ k. Rises (k + 1) gs) (sym e) h.2)))
    (λ other. let low = ltb-false u g.0 not_less in
    subst (Rises from) (sym (cond-false (nat_eq u g.0) (with_front u (z +ℤ g.1) gs) (g ∷ with_factor u z gs) other))
    (h.0, h.1, factor-rises (g.0 + 1) u z gs (apart u g.0 low other) h.2))
    (cases_Bool (nat_eq u g.0))))
    (cases_Bool (nat_lt u g.0))
  where
    apart : (u k : ℕ) → k ≤ u → nat_eq u k ≡ false → k + 1 ≤ u
    apart u k low e = grind (arith, low, e)

pub factors-rise : (fs gs : List Factor) (at : ℕ) → Rises at fs → Rises 0 gs → Rises 0 (with_factors fs gs)
factors-rise [] gs at h k = k
factors-rise (f ∷ fs) gs at h k = factor-rises 0 f.0 f.1 (with_factors fs gs) (omega arith) (factors-rise fs gs (f.0 + 1) h.2 k)

pub size-some : (z : ℤ) → z ≢ pos 0 → (n : ℕ) × (unsigned_abs z ≡ suc n)
size-some (pos zero) h = absurd (h refl)
size-some (pos (suc n)) h = (n, refl)
size-some (negsuc n) h = (n, refl)

product : (c z : ℤ) → c ≢ pos 0 → z ≢ pos 0 → c *ℤ z ≢ pos 0
product c z h k e =
    let a = size-some c h in let b = size-some z k in
    let none : unsigned_abs (c *ℤ z) ≡ 0 = ap unsigned_abs e in
    let some : unsigned_abs (c *ℤ z) ≡ suc a.0 * suc b.0 = unsigned_abs-mul c z ∙ (λ i. a.1 i * b.1 i) in
    let more = mul-suc (suc a.0) b.0 in
    absurd (omega (arith, none, some, more))

scaled-rise : (c : ℤ) → c ≢ pos 0 → (from : ℕ) (fs : List Factor) → Rises from fs → Rises from (map (λ f. (f.0, c *ℤ f.1)) fs)
scaled-rise c h from [] k = tt
scaled-rise c h from (f ∷ fs) k = (k.0, product c f.1 h k.1, scaled-rise c h (f.0 + 1) fs k.2)

pub times-rise : (c : ℤ) (fs : List Factor) → Rises 0 fs → Rises 0 (times_factors c fs)
times-rise c fs h = ⊎_elim
    (λ is. subst (Rises 0) (sym (cond-true (int_eq c (pos 0)) [] (map (λ f. (f.0, c *ℤ f.1)) fs) is)) tt)
    (λ isnt. subst (Rises 0) (sym (cond-false (int_eq c (pos 0)) [] (map (λ f. (f.0, c *ℤ f.1)) fs) isnt))
    (scaled-rise c (not_zero c isnt) 0 fs h))
    (cases_Bool (int_eq c (pos 0)))

pub unknown-rises : (u : ℕ) → Rises 0 (unknown u).factors
unknown-rises u = (omega arith, (λ e. absurd (one e)), tt)
  where
    one : pos 1 ≡ pos 0 → ⊥
    one e = omega (arith, ints, e)

pub form_rises : (base : ℕ) (T : Entries) (e : Sym) → Rises 0 ((gathered base e).form T).factors
form_rises base T = gather_induction base (λ e g. Rises 0 (g.form T).factors) (record {
  num = λ n. tt;
  slot = λ x. unknown-rises x;
  negated = λ a g p. times-rise (negsuc 0) (g.form T).factors p;
  added = λ a b g h p q. factors-rise (g.form T).factors (h.form T).factors 0 p q;
  less = λ a b g h p q. factors-rise (g.form T).factors (times_factors (negsuc 0) (h.form T).factors) 0 p
      (times-rise (negsuc 0) (h.form T).factors q);
  scaled = λ c a g p. times-rise c (g.form T).factors p;
  quotient = λ a k g p. quotient_rises (g.form T) k;
})
  where
    quotient_rises : (f : LinView) (k : ℤ) → Rises 0 (quotient base T f k).factors
    quotient_rises f k = ⊎_elim
        (λ is. subst (λ (q : LinView). Rises 0 q.factors) (sym (cond-true (is_constant f.factors) (constant_form (floor_of f.constant k))
        (unknown (base + position_or_len (same_entry (f, k)) T)) is)) tt)
        (λ isnt. subst (λ (q : LinView). Rises 0 q.factors) (sym (cond-false (is_constant f.factors) (constant_form (floor_of f.constant k))
        (unknown (base + position_or_len (same_entry (f, k)) T)) isnt)) (unknown-rises _))
        (cases_Bool (is_constant f.factors))
