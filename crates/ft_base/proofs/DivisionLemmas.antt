-- The floor and the ceiling of a quotient.
use Rattle.std.proofs.Common.{◌≡◌, ◌∙◌, sym, ap, subst, ℕ, zero, suc, ◌+◌, ◌*◌, ◌/◌, ◌^◌, ◌<◌, ◌≤◌, ℤ, pos, negsuc, ◌+ℤ◌, ◌-ℤ◌, ◌*ℤ◌, ◌≤ℤ◌}
use Rattle.std.proofs.Common.{◌<ℤ◌, w64, arith}
use Rattle.std.specs.Int.{int_div_euclid, int_rem_euclid}
use Rattle.std.proofs.lemmas.Int.{ints, by_lt_z, fits_signed_from_abs}
use Rattle.std.specs.Prelude.{FitsSigned, unsigned_abs}
use Rattle.std.proofs.Math.Nat.{mul-le-mul_left, mul-le-mul_right, div-le_self}
use Rattle.ft_base.specs.Division.{IsFloor, IsCeiling}

-- the quotient by a positive number is the floor
floor-is : (a k : ℤ) → pos 0 <ℤ k → IsFloor a k (int_div_euclid a k)
floor-is (pos a) (pos k) h = record { low = grind (arith, ints); high = grind (arith, ints) }
floor-is (negsuc a) (pos k) h = record { low = grind (arith, ints); high = grind (arith, ints) }
floor-is (pos a) (negsuc k) h = absurd (omega (arith, ints))
floor-is (negsuc a) (negsuc k) h = absurd (omega (arith, ints))

times_more : (k : ℕ) (a b : ℤ) → a ≤ℤ b → (pos k *ℤ a) ≤ℤ (pos k *ℤ b)
times_more k (pos a) (pos b) h = let more : k * a ≤ k * b = mul-le-mul_left k (omega (arith, ints)) in grind (arith, ints)
times_more k (pos a) (negsuc b) h = absurd (omega (arith, ints))
times_more k (negsuc a) (pos b) h = grind (arith, ints)
times_more k (negsuc a) (negsuc b) h = let more : k * suc b ≤ k * suc a = mul-le-mul_left k (omega (arith, ints)) in grind (arith, ints)

times_next : (k : ℕ) (a : ℤ) → pos k *ℤ (a +ℤ pos 1) ≡ (pos k *ℤ a) +ℤ pos k
times_next k (pos a) = grind (arith, ints)
times_next k (negsuc zero) = grind (arith, ints)
times_next k (negsuc (suc a)) = grind (arith, ints)

times_next_z : (k a : ℤ) → pos 0 <ℤ k → k *ℤ (a +ℤ pos 1) ≡ (k *ℤ a) +ℤ k
times_next_z (pos k) a h = times_next k a
times_next_z (negsuc k) a h = absurd (omega (arith, ints))

next_of : (a b : ℤ) → a <ℤ b → (a +ℤ pos 1) ≤ℤ b
next_of a b h = omega (arith, ints)

no_less : (a q r : ℤ) (k : ℕ) → (pos k *ℤ r) ≤ℤ a → a ≤ℤ ((pos k *ℤ q) +ℤ pos k -ℤ pos 1) → q <ℤ r → ⊥
no_less a q r k low high less = omega (arith, ints, times_more k (q +ℤ pos 1) r (next_of q r less), times_next k q)

-- and no other number is
pub floor-only : (a k q r : ℤ) → pos 0 <ℤ k → IsFloor a k q → IsFloor a k r → q ≡ r
floor-only a (negsuc k) q r h is other = absurd (omega (arith, ints))
floor-only a (pos k) q r h is other =
    by_lt_z q r (λ less. absurd (no_less a q r k other.low is.high less))
    (λ up. by_lt_z r q (λ less. absurd (no_less a r q k is.low other.high less)) (λ down. omega (arith, ints)))

-- a number is the divisor times the quotient, and the rest
rest-of : (a k : ℤ) → pos 0 <ℤ k → a ≡ (k *ℤ int_div_euclid a k) +ℤ int_rem_euclid a k
rest-of (pos a) (pos k) h = grind (arith, ints)
rest-of (negsuc a) (pos k) h = grind (arith, ints)
rest-of (pos a) (negsuc k) h = absurd (omega (arith, ints))
rest-of (negsuc a) (negsuc k) h = absurd (omega (arith, ints))

pub floor-at : (a k q : ℤ) → pos 0 <ℤ k → q ≡ int_div_euclid a k → IsFloor a k q
floor-at a k q h is = subst (IsFloor a k) (sym is) (floor-is a k h)

-- with no rest the quotient is the ceiling
pub ceiling-whole : (a k q r : ℤ) → pos 0 <ℤ k → q ≡ int_div_euclid a k → r ≡ int_rem_euclid a k → r ≡ pos 0 → IsCeiling a k q
ceiling-whole a k q r h is rest none =
    let whole : a ≡ (k *ℤ q) +ℤ r = rest-of a k h ∙ ap (λ x. (k *ℤ x) +ℤ int_rem_euclid a k) (sym is)
    ∙ ap (λ x. (k *ℤ q) +ℤ x) (sym rest) in
    record { low = omega (arith, ints); high = omega (arith, ints) }

-- with a rest the next number is
pub ceiling-next : (a k q r : ℤ) → pos 0 <ℤ k → q ≡ int_div_euclid a k → r ≡ int_rem_euclid a k → pos 0 <ℤ r → r <ℤ k
    → IsCeiling a k (q +ℤ pos 1)
ceiling-next a k q r h is rest some less =
    let whole : a ≡ (k *ℤ q) +ℤ r = rest-of a k h ∙ ap (λ x. (k *ℤ x) +ℤ int_rem_euclid a k) (sym is)
    ∙ ap (λ x. (k *ℤ q) +ℤ x) (sym rest) in
    let next : k *ℤ (q +ℤ pos 1) ≡ (k *ℤ q) +ℤ k = times_next_z k q h in
    record { low = omega (arith, ints); high = omega (arith, ints) }

-- with a rest the quotient isn't the greatest number
next_at : (a k : ℤ) → pos 0 <ℤ k → pos 0 <ℤ int_rem_euclid a k → FitsSigned w64 a → FitsSigned w64 (int_div_euclid a k +ℤ pos 1)
next_at (pos a) (pos k) h some fits =
    let twice : 2 * (a / k) ≤ k * (a / k) = mul-le-mul_right (a / k) (grind (arith, ints)) in
    let small : unsigned_abs (pos (a / k) +ℤ pos 1) ≤ a = grind (arith, ints) in
    let bound : a < 2 ^ 63 = omega (arith, ints) in
    fits_signed_from_abs w64 _ (omega arith)
next_at (negsuc a) (pos k) h some fits =
    let bound : a < 2 ^ 63 = omega (arith, ints) in
    let less : a / k ≤ a = div-le_self a k in
    let small : unsigned_abs (negsuc (a / k) +ℤ pos 1) ≤ a = grind (arith, ints) in
    fits_signed_from_abs w64 _ (omega arith)
next_at (pos a) (negsuc k) h some fits = absurd (omega (arith, ints))
next_at (negsuc a) (negsuc k) h some fits = absurd (omega (arith, ints))

pub next-fits : (a k q r : ℤ) → pos 0 <ℤ k → q ≡ int_div_euclid a k → r ≡ int_rem_euclid a k → pos 0 <ℤ r → FitsSigned w64 a
    → FitsSigned w64 (q +ℤ pos 1)
next-fits a k q r h is rest some fits =
    subst (λ x. FitsSigned w64 (x +ℤ pos 1)) (sym is) (next_at a k h (subst (λ x. pos 0 <ℤ x) rest some) fits)
