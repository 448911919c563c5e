-- Whole numbers: products, sums, order and quotients.
use Rattle.std.proofs.Common.{◌≡◌, ◌∙◌, sym, ap, ℕ, zero, suc, ◌*◌, ◌<◌, ◌≤◌, ℤ, pos, negsuc, ◌+ℤ◌, ◌-ℤ◌, ◌*ℤ◌, neg_ℤ, ◌≤ℤ◌, ◌<ℤ◌, true}
use Rattle.std.proofs.Common.{arith}
use Rattle.std.specs.Prelude.{nat_eq}
use Rattle.std.specs.Int.{int_div_euclid}
use Rattle.std.proofs.lemmas.Int.{ints, by_lt_z}
use Rattle.std.proofs.Math.Nat.{mul-le-mul_left}
use Rattle.std.proofs.Math.IntN.{suc_ℤ, pred_ℤ, suc_ℤ-*ℤ, pred_ℤ-*ℤ, +ℤ-suc_ℤ, +ℤ-pred_ℤ, +ℤ_idr, zero-*ℤ, *ℤ_comm}

pub times-up : (k : ℕ) (a b : ℤ) → a ≤ℤ b → (pos k *ℤ a) ≤ℤ (pos k *ℤ b)
times-up k (pos a) (pos b) h = let m : k * a ≤ k * b = mul-le-mul_left k (omega (arith, ints)) in grind (arith, ints)
times-up k (pos a) (negsuc b) h = absurd (omega (arith, ints))
times-up k (negsuc a) (pos b) h = grind (arith, ints)
times-up k (negsuc a) (negsuc b) h = let m : k * suc b ≤ k * suc a = mul-le-mul_left k (omega (arith, ints)) in grind (arith, ints)

-- products over sums
add-mul-pos : (a c : ℤ) (n : ℕ) → (a +ℤ pos n) *ℤ c ≡ (a *ℤ c) +ℤ (pos n *ℤ c)
add-mul-pos a c zero = ap (λ (y : ℤ). y *ℤ c) (+ℤ_idr a) ∙ sym (ap (λ (y : ℤ). (a *ℤ c) +ℤ y) (zero-*ℤ c) ∙ +ℤ_idr (a *ℤ c))
add-mul-pos a c (suc n) =
    let step : a +ℤ pos (suc n) ≡ suc_ℤ (a +ℤ pos n) = +ℤ-suc_ℤ a (pos n) in
    let more = suc_ℤ-*ℤ (a +ℤ pos n) c in
    let less = suc_ℤ-*ℤ (pos n) c in
    let r = add-mul-pos a c n in
    ap (λ (y : ℤ). y *ℤ c) step ∙ omega (arith, ints, more, less, r)

add-mul-neg : (a c : ℤ) (n : ℕ) → (a +ℤ negsuc n) *ℤ c ≡ (a *ℤ c) +ℤ (negsuc n *ℤ c)
add-mul-neg a c zero =
    let step : a +ℤ negsuc 0 ≡ pred_ℤ (a +ℤ pos 0) = +ℤ-pred_ℤ a (pos 0) in
    let more = pred_ℤ-*ℤ (a +ℤ pos 0) c in
    let less = pred_ℤ-*ℤ (pos 0) c in
    let r = add-mul-pos a c 0 in
    ap (λ (y : ℤ). y *ℤ c) step ∙ omega (arith, ints, more, less, r)
add-mul-neg a c (suc n) =
    let step : a +ℤ negsuc (suc n) ≡ pred_ℤ (a +ℤ negsuc n) = +ℤ-pred_ℤ a (negsuc n) in
    let more = pred_ℤ-*ℤ (a +ℤ negsuc n) c in
    let less = pred_ℤ-*ℤ (negsuc n) c in
    let r = add-mul-neg a c n in
    ap (λ (y : ℤ). y *ℤ c) step ∙ omega (arith, ints, more, less, r)

pub add-mul : (a b c : ℤ) → (a +ℤ b) *ℤ c ≡ (a *ℤ c) +ℤ (b *ℤ c)
add-mul a (pos n) c = add-mul-pos a c n
add-mul a (negsuc n) c = add-mul-neg a c n

pub mul-add : (c a b : ℤ) → c *ℤ (a +ℤ b) ≡ (c *ℤ a) +ℤ (c *ℤ b)
mul-add c a b = *ℤ_comm c (a +ℤ b) ∙ add-mul a b c ∙ ap (λ (y : ℤ). y +ℤ (b *ℤ c)) (*ℤ_comm a c)
    ∙ ap (λ (y : ℤ). (c *ℤ a) +ℤ y) (*ℤ_comm b c)

-- the quotient by a positive number is the floor
floor-high : (e : ℤ) (k : ℕ) → 0 < k → e ≤ℤ ((pos k *ℤ int_div_euclid e (pos k)) +ℤ pos k -ℤ pos 1)
floor-high (pos a) k h = grind (arith, ints)
floor-high (negsuc a) k h = grind (arith, ints)

pub times-next : (k : ℕ) (a : ℤ) → pos k *ℤ (a +ℤ pos 1) ≡ (pos k *ℤ a) +ℤ pos k
times-next k (pos a) = grind (arith, ints)
times-next k (negsuc zero) = grind (arith, ints)
times-next k (negsuc (suc a)) = grind (arith, ints)

no-less : (e q d : ℤ) (k : ℕ) → (pos k *ℤ d) ≤ℤ e → e ≤ℤ ((pos k *ℤ q) +ℤ pos k -ℤ pos 1) → q <ℤ d → ⊥
no-less e q d k low high less = omega (arith, ints, times-up k (q +ℤ pos 1) d (omega (arith, ints)), times-next k q)

-- a whole number times k is at most d exactly where it is at most the floor
under-floor : (s d : ℤ) (k : ℕ) → 0 < k → (pos k *ℤ s) ≤ℤ d → s ≤ℤ int_div_euclid d (pos k)
under-floor s d k h low = by_lt_z (int_div_euclid d (pos k)) s
    (λ less. absurd (no-less d (int_div_euclid d (pos k)) s k low (floor-high d k h) less))
    (λ other. omega (arith, ints))

opposites : (z : ℤ) → neg_ℤ z +ℤ z ≡ pos 0
opposites z = omega (arith, ints)

pub neg-mul : (g y : ℤ) → ((neg_ℤ g *ℤ y) +ℤ (g *ℤ y)) ≡ pos 0
neg-mul g y = sym (add-mul (neg_ℤ g) g y) ∙ ap (λ (z : ℤ). z *ℤ y) (opposites g) ∙ zero-*ℤ y

pub mul-neg : (g y : ℤ) → ((g *ℤ neg_ℤ y) +ℤ (g *ℤ y)) ≡ pos 0
mul-neg g y = ap (λ (z : ℤ). z +ℤ (g *ℤ y)) (*ℤ_comm g (neg_ℤ y)) ∙ ap (λ (z : ℤ). (neg_ℤ y *ℤ g) +ℤ z) (*ℤ_comm g y) ∙ neg-mul y g

floor-low : (e : ℤ) (k : ℕ) → 0 < k → (pos k *ℤ int_div_euclid e (pos k)) ≤ℤ e
floor-low (pos a) k h = grind (arith, ints)
floor-low (negsuc a) k h = grind (arith, ints)

-- the quotient of a multiple
pub quotient-is : (z q : ℤ) (g : ℕ) → 0 < g → z ≡ pos g *ℤ q → int_div_euclid z (pos g) ≡ q
quotient-is z q g h is =
    let up : q ≤ℤ int_div_euclid z (pos g) = under-floor q z g h (omega (arith, ints, is)) in
    by_lt_z q (int_div_euclid z (pos g))
    (λ less. absurd (no-less z q (int_div_euclid z (pos g)) g (floor-low z g h) (omega (arith, ints, is, h)) less))
    (λ down. omega (arith, ints, up, down))

pub mul-assoc : (t : ℕ) (f y : ℤ) → (pos t *ℤ f) *ℤ y ≡ pos t *ℤ (f *ℤ y)
mul-assoc zero f y = ap (λ (z : ℤ). z *ℤ y) (zero-*ℤ f) ∙ zero-*ℤ y ∙ sym (zero-*ℤ (f *ℤ y))
mul-assoc (suc t) f y = ap (λ (z : ℤ). z *ℤ y) (suc_ℤ-*ℤ (pos t) f) ∙ add-mul (pos t *ℤ f) f y
    ∙ ap (λ (z : ℤ). z +ℤ (f *ℤ y)) (mul-assoc t f y) ∙ sym (suc_ℤ-*ℤ (pos t) (f *ℤ y))

pub times-none : (t : ℕ) → pos t *ℤ pos 0 ≡ pos 0
times-none t = grind (arith, ints)

pub eq-nat : (a b : ℕ) → nat_eq a b ≡ true → a ≡ b
eq-nat a b e = grind (arith, e)
