-- Sums of factors, unknown by unknown.
use Rattle.std.proofs.Common.{◌≡◌, ◌≢◌, ◌∙◌, inl, inr, sym, ap, refl, ℕ, zero, suc, ◌+◌, ◌<◌, ◌≤◌, ℤ, pos, ◌+ℤ◌, ◌*ℤ◌, neg_ℤ, Bool, true}
use Rattle.std.proofs.Common.{false, cond, List, [], ◌∷◌, ◌++◌, map, arith}
use Rattle.std.specs.Prelude.{nat_eq}
use Rattle.std.proofs.lemmas.Bool.{cases_Bool, eqb-true}
use Rattle.std.proofs.lemmas.Int.{ints}
use Rattle.std.proofs.Math.IntN.{suc_ℤ-*ℤ, zero-*ℤ}
use Rattle.ft_linear.specs.meaning.Form.{Factor, scaled, sum_at}
use Rattle.ft_linear.specs.meaning.Rules.{factor_of}
use Rattle.ft_linear.proofs.Whole.{add-mul, mul-add, neg-mul}
use Rattle.ft_linear.proofs.Basics.{opposites}

-- the sum of a function over the numbers below n
total : ℕ → (ℕ → ℤ) → ℤ
total zero g = pos 0
total (suc n) g = total n g +ℤ g n

total-add : (n : ℕ) (g h : ℕ → ℤ) → total n (λ u. g u +ℤ h u) ≡ total n g +ℤ total n h
unfolding total
total-add zero g h = refl
total-add (suc n) g h = let r = total-add n g h in omega (arith, ints, r)

total-zero : (n : ℕ) (g : ℕ → ℤ) → ((u : ℕ) → u < n → g u ≡ pos 0) → total n g ≡ pos 0
unfolding total
total-zero zero g h = refl
total-zero (suc n) g h = let r = total-zero n g (λ u below. h u (omega (arith, below))) in let e = h n (omega arith) in
    omega (arith, ints, r, e)

-- the function that is nothing but at one number
abbrev at_one : (ℕ → ℤ) → ℕ → ℤ → ℕ → ℤ
at_one x v f u = cond (nat_eq v u) f (pos 0) *ℤ x u

pub not-equal : (v u : ℕ) → v ≢ u → nat_eq v u ≡ false
not-equal v u h = elim (cases_Bool (nat_eq v u)) [
  | inl so ↦ absurd (h (eqb-true v u so))
  | inr isnt ↦ isnt
]

pub equal-to-itself : (v : ℕ) → nat_eq v v ≡ true
equal-to-itself v = grind arith

at-another : (x : ℕ → ℤ) (v : ℕ) (f : ℤ) (u : ℕ) → v ≢ u → at_one x v f u ≡ pos 0
at-another x v f u h = ap (λ (b : Bool). cond b f (pos 0) *ℤ x u) (not-equal v u h) ∙ zero-*ℤ (x u)

at-itself : (x : ℕ → ℤ) (v : ℕ) (f : ℤ) → at_one x v f v ≡ f *ℤ x v
at-itself x v f = ap (λ (b : Bool). cond b f (pos 0) *ℤ x v) (equal-to-itself v)

total-one : (n : ℕ) (x : ℕ → ℤ) (v : ℕ) (f : ℤ) → v < n → total n (at_one x v f) ≡ f *ℤ x v
unfolding total
total-one zero x v f h = absurd (omega (arith, h))
total-one (suc n) x v f h = elim (cases_Bool (nat_eq v n)) [
  | inl so ↦
      let e = eqb-true v n so in
      let r = total-zero n (at_one x v f) (λ u below. at-another x v f u (λ same. omega (arith, same, below, e))) in
      let here : at_one x v f n ≡ f *ℤ x v = ap (at_one x v f) (sym e) ∙ at-itself x v f in
      omega (arith, ints, r, here)
  | inr isnt ↦
      let other : v ≢ n = λ same. cc (sym isnt ∙ ap (nat_eq v) (sym same) ∙ equal-to-itself v) in
      let r = total-one n x v f (grind (arith, h, other)) in
      let none = at-another x v f n other in
      omega (arith, ints, r, none)
]

Below : ℕ → List Factor → Type 0
Below n [] = Unit {0}
Below n (f ∷ fs) = (f.0 < n) × Below n fs

below-more : (n m : ℕ) (fs : List Factor) → n ≤ m → Below n fs → Below m fs
unfolding Below
below-more n m [] le h = tt
below-more n m (f ∷ fs) le h = (omega (arith, le, h.0), below-more n m fs le h.1)

some-bound : (fs : List Factor) → (n : ℕ) × Below n fs
unfolding Below
some-bound [] = (0, tt)
some-bound (f ∷ fs) = let (n, h) = some-bound fs in (f.0 + 1 + n, (omega arith, below-more n (f.0 + 1 + n) fs (omega arith) h))

-- a sum of factors, unknown by unknown
by-unknown : (n : ℕ) (x : ℕ → ℤ) (fs : List Factor) → Below n fs → sum_at x fs ≡ total n (λ u. factor_of u fs *ℤ x u)
unfolding Below
by-unknown n x [] h = sym (total-zero n (λ u. pos 0 *ℤ x u) (λ u below. zero-*ℤ (x u)))
by-unknown n x (f ∷ fs) h =
    let one = total-one n x f.0 f.1 h.0 in
    let r = by-unknown n x fs h.1 in
    let both = total-add n (at_one x f.0 f.1) (λ u. factor_of u fs *ℤ x u) in
    let apart : total n (λ u. factor_of u (f ∷ fs) *ℤ x u) ≡ total n (λ u. at_one x f.0 f.1 u +ℤ (factor_of u fs *ℤ x u)) =
    λ i. total n (λ u. add-mul (cond (nat_eq f.0 u) f.1 (pos 0)) (factor_of u fs) (x u) i) in
    omega (arith, ints, one, r, both, apart)

-- factors that cancel add up to nothing
pub cancels : (x : ℕ → ℤ) (fs : List Factor) → ((u : ℕ) → factor_of u fs ≡ pos 0) → sum_at x fs ≡ pos 0
cancels x fs h = let (n, below) = some-bound fs in
    by-unknown n x fs below ∙ total-zero n (λ u. factor_of u fs *ℤ x u) (λ u lower. ap (λ (g : ℤ). g *ℤ x u) (h u) ∙ zero-*ℤ (x u))

-- one unknown alone is left
pub alone : (x : ℕ → ℤ) (u : ℕ) (fs : List Factor) → ((v : ℕ) → v ≢ u → factor_of v fs ≡ pos 0) → sum_at x fs ≡ factor_of u fs *ℤ x u
alone x u fs h =
    let g : ℤ = factor_of u fs in
    let all : (v : ℕ) → factor_of v ((u, neg_ℤ g) ∷ fs) ≡ pos 0 = λ v. elim (cases_Bool (nat_eq u v)) [
      | inl so ↦ ap (λ (b : Bool). cond b (neg_ℤ g) (pos 0) +ℤ factor_of v fs) so
          ∙ ap (λ (w : ℕ). neg_ℤ g +ℤ factor_of w fs) (sym (eqb-true u v so)) ∙ opposites g
      | inr isnt ↦ ap (λ (b : Bool). cond b (neg_ℤ g) (pos 0) +ℤ factor_of v fs) isnt
          ∙ ap (λ (z : ℤ). pos 0 +ℤ z) (h v (λ same. cc (sym isnt ∙ ap (nat_eq u) same ∙ equal-to-itself u)))
    ] in
    let e = cancels x ((u, neg_ℤ g) ∷ fs) all in
    let n = neg-mul g (x u) in
    omega (arith, ints, e, n)

pub sum-append : (x : ℕ → ℤ) (fs gs : List Factor) → sum_at x (fs ++ gs) ≡ sum_at x fs +ℤ sum_at x gs
sum-append x [] gs = omega (arith, ints)
sum-append x (f ∷ fs) gs = let r = sum-append x fs gs in omega (arith, ints, r)

pub mul-assoc : (t : ℕ) (f y : ℤ) → (pos t *ℤ f) *ℤ y ≡ pos t *ℤ (f *ℤ y)
mul-assoc zero f y = ap (λ (z : ℤ). z *ℤ y) (zero-*ℤ f) ∙ zero-*ℤ y ∙ sym (zero-*ℤ (f *ℤ y))
mul-assoc (suc t) f y = ap (λ (z : ℤ). z *ℤ y) (suc_ℤ-*ℤ (pos t) f) ∙ add-mul (pos t *ℤ f) f y
    ∙ ap (λ (z : ℤ). z +ℤ (f *ℤ y)) (mul-assoc t f y) ∙ sym (suc_ℤ-*ℤ (pos t) (f *ℤ y))

pub times-none : (t : ℕ) → pos t *ℤ pos 0 ≡ pos 0
times-none t = grind (arith, ints)

pub sum-scaled : (x : ℕ → ℤ) (t : ℕ) (fs : List Factor) → sum_at x (scaled t fs) ≡ pos t *ℤ sum_at x fs
sum-scaled x t [] = sym (times-none t)
sum-scaled x t (f ∷ fs) = let a = mul-assoc t f.1 (x f.0) in let r = sum-scaled x t fs in let d =
    mul-add (pos t) (f.1 *ℤ x f.0) (sum_at x fs) in omega (arith, ints, a, r, d)

pub factor_of-append : (u : ℕ) (fs gs : List Factor) → factor_of u (fs ++ gs) ≡ factor_of u fs +ℤ factor_of u gs
factor_of-append u [] gs = omega (arith, ints)
factor_of-append u (f ∷ fs) gs = let r = factor_of-append u fs gs in omega (arith, ints, r)

cond-times : (t : ℕ) (b : Bool) (f : ℤ) → cond b (pos t *ℤ f) (pos 0) ≡ pos t *ℤ cond b f (pos 0)
cond-times t true f = refl
cond-times t false f = sym (times-none t)

pub factor_of-scaled : (u t : ℕ) (fs : List Factor) → factor_of u (scaled t fs) ≡ pos t *ℤ factor_of u fs
factor_of-scaled u t [] = sym (times-none t)
factor_of-scaled u t (f ∷ fs) =
    let c = cond-times t (nat_eq f.0 u) f.1 in
    let r = factor_of-scaled u t fs in
    let d = mul-add (pos t) (cond (nat_eq f.0 u) f.1 (pos 0)) (factor_of u fs) in
    omega (arith, ints, c, r, d)

-- the factors of minus the form
abbrev pub negated_factors : List Factor → List Factor
negated_factors fs = map (λ f. (f.0, neg_ℤ f.1)) fs

cond-neg : (b : Bool) (f : ℤ) → cond b (neg_ℤ f) (pos 0) ≡ neg_ℤ (cond b f (pos 0))
cond-neg true f = refl
cond-neg false f = refl

pub factor_of-negated : (u : ℕ) (fs : List Factor) → factor_of u (negated_factors fs) ≡ neg_ℤ (factor_of u fs)
factor_of-negated u [] = refl
factor_of-negated u (f ∷ fs) = let c = cond-neg (nat_eq f.0 u) f.1 in let r = factor_of-negated u fs in omega (arith, ints, c, r)

pub sum-negated : (x : ℕ → ℤ) (fs : List Factor) → sum_at x (negated_factors fs) ≡ neg_ℤ (sum_at x fs)
sum-negated x [] = refl
sum-negated x (f ∷ fs) = let n = neg-mul f.1 (x f.0) in let r = sum-negated x fs in omega (arith, ints, n, r)
