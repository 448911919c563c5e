-- The values of forms that are made of others.
use Rattle.std.proofs.Common.{◌≡◌, ◌∙◌, sym, ap, ℕ, zero, suc, ℤ, pos, negsuc, ◌+ℤ◌, ◌*ℤ◌, neg_ℤ, ◌-ℤ◌, true, List, [], ◌∷◌, map, arith}
use Rattle.std.proofs.Common.{⊎_elim}
use Rattle.std.specs.Prelude.{nat_lt, nat_eq}
use Rattle.std.specs.Ordering.{int_eq}
use Rattle.std.proofs.lemmas.Int.{ints}
use Rattle.std.proofs.lemmas.Bool.{cases_Bool, cond-true, cond-false}
use Rattle.std.proofs.lemmas.Bool.Decides.{Decides-int_eq, Decides-eqb}
use Rattle.std.proofs.Math.IntN.{zero-*ℤ, *ℤ_comm, suc_ℤ-*ℤ}
use Rattle.ft_linear.specs.meaning.Form.{Factor, LinView, sum_at, form_at}
use Rattle.ft_claims.proofs.Arithmetic.{add-mul, mul-add, neg-mul}
use Rattle.ft_claims.specs.meaning.Forms.{constant_form, unknown, with_front, with_factor, with_factors, plus, times_factors, times, minus}

mul-assoc-pos : (t : ℕ) (f y : ℤ) → (pos t *ℤ f) *ℤ y ≡ pos t *ℤ (f *ℤ y)
mul-assoc-pos zero f y = ap (λ (z : ℤ). z *ℤ y) (zero-*ℤ f) ∙ zero-*ℤ y ∙ sym (zero-*ℤ (f *ℤ y))
mul-assoc-pos (suc t) f y = ap (λ (z : ℤ). z *ℤ y) (suc_ℤ-*ℤ (pos t) f) ∙ add-mul (pos t *ℤ f) f y
    ∙ ap (λ (z : ℤ). z +ℤ (f *ℤ y)) (mul-assoc-pos t f y) ∙ sym (suc_ℤ-*ℤ (pos t) (f *ℤ y))

mul-assoc : (a b c : ℤ) → (a *ℤ b) *ℤ c ≡ a *ℤ (b *ℤ c)
mul-assoc (pos t) b c = mul-assoc-pos t b c
mul-assoc (negsuc t) b c =
    let first = neg-mul (pos (suc t)) b in
    let turned : negsuc t *ℤ b ≡ neg_ℤ (pos (suc t) *ℤ b) = omega (arith, ints, first) in
    let second = neg-mul (pos (suc t) *ℤ b) c in
    let third = neg-mul (pos (suc t)) (b *ℤ c) in
    let same = mul-assoc-pos (suc t) b c in
    ap (λ (z : ℤ). z *ℤ c) turned ∙ omega (arith, ints, second, third, same)

pub minus-one : (z : ℤ) → negsuc 0 *ℤ z ≡ neg_ℤ z
minus-one (pos zero) = grind (arith, ints)
minus-one (pos (suc n)) = grind (arith, ints)
minus-one (negsuc n) = grind (arith, ints)

module _ (x : ℕ → ℤ) where
  front-at : (u : ℕ) (z : ℤ) (fs : List Factor) → sum_at x (with_front u z fs) ≡ (z *ℤ x u) +ℤ sum_at x fs
  front-at u z fs = ⊎_elim
      (λ is. ap (sum_at x) (cond-true (int_eq z (pos 0)) fs ((u, z) ∷ fs) is)
      ∙ (let none : z *ℤ x u ≡ pos 0 = ap (λ w. w *ℤ x u) ((Decides-int_eq z (pos 0)).0 is) ∙ zero-*ℤ (x u) in omega (arith, ints, none)))
      (λ isnt. ap (sum_at x) (cond-false (int_eq z (pos 0)) fs ((u, z) ∷ fs) isnt))
      (cases_Bool (int_eq z (pos 0)))

  factor-at : (u : ℕ) (z : ℤ) (fs : List Factor) → sum_at x (with_factor u z fs) ≡ (z *ℤ x u) +ℤ sum_at x fs
  factor-at u z [] = front-at u z []
  factor-at u z (g ∷ gs) = ⊎_elim
      (λ less. ap (sum_at x) (cond-true (nat_lt u g.0) _ _ less) ∙ front-at u z (g ∷ gs))
      (λ not_less. ap (sum_at x) (cond-false (nat_lt u g.0) _ _ not_less) ∙ ⊎_elim
      (λ same. ap (sum_at x) (cond-true (nat_eq u g.0) _ _ same) ∙ front-at u (z +ℤ g.1) gs ∙ joined same)
      (λ other. ap (sum_at x) (cond-false (nat_eq u g.0) _ _ other) ∙ (let more = factor-at u z gs in omega (arith, ints, more)))
      (cases_Bool (nat_eq u g.0)))
      (cases_Bool (nat_lt u g.0))
    where
      joined : nat_eq u g.0 ≡ true → ((z +ℤ g.1) *ℤ x u) +ℤ sum_at x gs ≡ (z *ℤ x u) +ℤ ((g.1 *ℤ x g.0) +ℤ sum_at x gs)
      joined same =
          let e : g.1 *ℤ x u ≡ g.1 *ℤ x g.0 = ap (λ v. g.1 *ℤ x v) ((Decides-eqb u g.0).0 same) in
          let d = add-mul z g.1 (x u) in
          omega (arith, ints, e, d)

  factors-at : (fs gs : List Factor) → sum_at x (with_factors fs gs) ≡ sum_at x fs +ℤ sum_at x gs
  factors-at [] gs = omega (arith, ints)
  factors-at (f ∷ fs) gs = let here = factor-at f.0 f.1 (with_factors fs gs) in let more = factors-at fs gs in
      omega (arith, ints, here, more)

  pub plus-at : (a b : LinView) → form_at x (plus a b) ≡ form_at x a +ℤ form_at x b
  plus-at a b = let both = factors-at a.factors b.factors in omega (arith, ints, both)

  scaled-at : (c : ℤ) (fs : List Factor) → sum_at x (map (λ f. (f.0, c *ℤ f.1)) fs) ≡ c *ℤ sum_at x fs
  scaled-at c [] = sym (*ℤ_comm c (pos 0) ∙ zero-*ℤ c)
  scaled-at c (f ∷ fs) =
      let here = mul-assoc c f.1 (x f.0) in
      let more = scaled-at c fs in
      let all = mul-add c (f.1 *ℤ x f.0) (sum_at x fs) in
      omega (arith, ints, here, more, all)

  times-sum : (c : ℤ) (fs : List Factor) → sum_at x (times_factors c fs) ≡ c *ℤ sum_at x fs
  times-sum c fs = ⊎_elim
      (λ is. ap (sum_at x) (cond-true (int_eq c (pos 0)) [] (map (λ f. (f.0, c *ℤ f.1)) fs) is)
      ∙ sym (ap (λ w. w *ℤ sum_at x fs) ((Decides-int_eq c (pos 0)).0 is) ∙ zero-*ℤ (sum_at x fs)))
      (λ isnt. ap (sum_at x) (cond-false (int_eq c (pos 0)) [] (map (λ f. (f.0, c *ℤ f.1)) fs) isnt) ∙ scaled-at c fs)
      (cases_Bool (int_eq c (pos 0)))

  pub times-at : (c : ℤ) (a : LinView) → form_at x (times c a) ≡ c *ℤ form_at x a
  times-at c a =
      let all = mul-add c (sum_at x a.factors) a.constant in
      let sum = times-sum c a.factors in omega (arith, ints, all, sum)

  pub minus-at : (a b : LinView) → form_at x (minus a b) ≡ form_at x a -ℤ form_at x b
  minus-at a b =
      let both = plus-at a (times (negsuc 0) b) in
      let turned = times-at (negsuc 0) b in
      let one : negsuc 0 *ℤ form_at x b ≡ neg_ℤ (form_at x b) = minus-one (form_at x b) in
      omega (arith, ints, both, turned, one)

  pub constant-at : (n : ℤ) → form_at x (constant_form n) ≡ n
  constant-at n = omega (arith, ints)

  pub unknown-at : (u : ℕ) → form_at x (unknown u) ≡ x u
  unknown-at u = let one : pos 1 *ℤ x u ≡ x u = times-one (x u) in omega (arith, ints, one)
    where
      times-one : (z : ℤ) → pos 1 *ℤ z ≡ z
      times-one (pos n) = grind (arith, ints)
      times-one (negsuc n) = grind (arith, ints)
