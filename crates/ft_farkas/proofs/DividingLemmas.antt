-- Quotients with a sign: they are no larger than the number, and exact where the divisor divides it.
use Rattle.std.proofs.Common.{◌≡◌, ◌∙◌, sym, ap, subst, refl, ℕ, ◌+◌, ◌*◌, ◌/◌, ◌<◌, ◌≤◌, ℤ, pos, neg_ℤ, ◌*ℤ◌, Bool, true, false, unsigned_abs, arith}
use Prim.Native.Nat.{◌∣◌}
use Rattle.std.proofs.lemmas.Int.{ints}
use Rattle.std.proofs.lemmas.Nat.Gcd.{mod-eq-zero_of_dvd, dvd_trans, le_of_dvd}
use Rattle.std.proofs.Math.Nat.{mul-dvd-mul_right, le_of_mul-le-mul_right}
use Rattle.std.specs.Prelude.{nat_eq, int_lt}
use Rattle.std.specs.Int.{IsGcd}
use Rattle.ft_farkas.proofs.Arithmetic.{eq-nat}
use Rattle.ft_farkas.specs.building.Quotients.{quotient_of, signed}

less : (a d : ℕ) → a / d ≤ a
less a d = omega arith

signed-size : (below : Bool) (q : ℕ) → unsigned_abs (signed below q) ≡ q
signed-size true q = omega (arith, ints)
signed-size false q = refl

magnitude : (z : ℤ) (d : ℕ) → unsigned_abs (quotient_of z d) ≡ unsigned_abs z / d
magnitude z d = signed-size (int_lt z (pos 0)) (unsigned_abs z / d)

pub quotient-small : (z : ℤ) (d : ℕ) → unsigned_abs (quotient_of z d) ≤ unsigned_abs z
quotient-small z d = subst (λ (k : ℕ). k ≤ unsigned_abs z) (sym (magnitude z d)) (less (unsigned_abs z) d)

exact : (a d : ℕ) → d ∣ a → a ≡ d * (a / d)
exact a d h = let m = mod-eq-zero_of_dvd d h in omega (arith, m)

-- a quotient by a divisor is exact
pub quotient-exact : (z : ℤ) (d : ℕ) → d ∣ unsigned_abs z → z ≡ pos d *ℤ quotient_of z d
quotient-exact z d h = sign-is z ∙ ap (signed (int_lt z (pos 0))) (exact (unsigned_abs z) d h) ∙ out (int_lt z (pos 0)) d (unsigned_abs z / d)
  where
    sign-is : (z : ℤ) → z ≡ signed (int_lt z (pos 0)) (unsigned_abs z)
    sign-is z = grind (arith, ints)

    turned : (d q : ℕ) → neg_ℤ (pos (d * q)) ≡ pos d *ℤ neg_ℤ (pos q)
    turned d q = grind (arith, ints)

    out : (b : Bool) (d q : ℕ) → signed b (d * q) ≡ pos d *ℤ signed b q
    out true d q = turned d q
    out false d q = refl

pub ruleset quotients = (quotient-small)

-- the greatest common divisor of one number more
pub divisor-more : (f : ℕ → ℕ) (k g h : ℕ) → ((c : ℕ) → c < k → g ∣ f c) × ((d : ℕ) → ((c : ℕ) → c < k → d ∣ f c) → d ∣ g) → IsGcd g (f k) h →
    ((c : ℕ) → c < k + 1 → h ∣ f c) × ((d : ℕ) → ((c : ℕ) → c < k + 1 → d ∣ f c) → d ∣ h)
divisor-more f k g h inv is = (λ c below. by c below (nat_eq c k) refl, λ d all. is.2 d (inv.1 d (λ c below. all c (omega (arith, below)))) (all k (omega arith)))
  where
    by : (c : ℕ) → c < k + 1 → (b : Bool) → nat_eq c k ≡ b → h ∣ f c
    by c below true e = subst (λ (i : ℕ). h ∣ f i) (sym (eq-nat c k e)) is.1
    by c below false e = dvd_trans h is.0 (inv.0 c (lower c k below e))
      where
        lower : (c k : ℕ) → c < k + 1 → nat_eq c k ≡ false → c < k
        lower c k below e = grind (arith, below, e)

-- what divides each quotient by the greatest common divisor is 1 at most
pub none-greater : (numbers : ℕ → ℤ) (columns g : ℕ) → 0 < g → ((c : ℕ) → c < columns → g ∣ unsigned_abs (numbers c)) →
    ((d : ℕ) → ((c : ℕ) → c < columns → d ∣ unsigned_abs (numbers c)) → d ∣ g) →
    (d : ℕ) → ((c : ℕ) → c < columns → d ∣ unsigned_abs (quotient_of (numbers c) g)) → d ≤ 1
none-greater numbers columns g some divides greatest d all =
    let whole : d * g ∣ g = greatest (d * g) (λ c below. subst (λ (i : ℕ). d * g ∣ i) (size (numbers c) g (divides c below)) (mul-dvd-mul_right d (all c below) g)) in
    le_of_mul-le-mul_right {m = d} {n = 1} {k = g} (let h = le_of_dvd some whole in omega (arith, h)) some
  where
    size : (z : ℤ) (g : ℕ) → g ∣ unsigned_abs z → unsigned_abs (quotient_of z g) * g ≡ unsigned_abs z
    size z g h = ap (λ (k : ℕ). k * g) (magnitude z g) ∙ mul-comm (unsigned_abs z / g) g ∙ sym (exact (unsigned_abs z) g h)
      where
        mul-comm : (a b : ℕ) → a * b ≡ b * a
        mul-comm a b = omega arith
