-- The least positive multipliers with which two factors cancel.
use Rattle.std.proofs.Common.{◌≡◌, ◌∙◌, sym, ap, subst, ℕ, zero, suc, ◌+◌, ◌-◌, ◌*◌, ◌/◌, ◌%◌, ◌<◌, ◌≤◌, ℤ, pos, neg_ℤ, ◌+ℤ◌, ◌*ℤ◌, ◌<ℤ◌, unsigned_abs, arith}
use Prim.Native.Nat.{◌∣◌}
use Rattle.std.proofs.lemmas.Int.{ints}
use Rattle.std.specs.Int.{IsGcd}
use Rattle.std.proofs.lemmas.Nat.Gcd.{mod-eq-zero_of_dvd, le_of_dvd}
use Rattle.std.proofs.Math.Nat.{dvd-sub, dvd-mul_right_of_dvd, dvd-mul_left, dvd_of_mul-dvd-mul_right}
use Rattle.ft_farkas.specs.meaning.Kept.{Cancels}

pub dvd-rest : (e j a b : ℕ) → e ∣ j * a → e ∣ j * b → e ∣ j * (a % b)
dvd-rest e j a b first second = subst (λ (k : ℕ). e ∣ k) (left j a b (a / b) (a % b) (parts a b)) (dvd-sub e first (dvd-mul_right_of_dvd e second (a / b)))
  where
    parts : (a b : ℕ) → a ≡ b * (a / b) + a % b
    parts a b = omega arith

    spread : (j b q r : ℕ) → j * (b * q + r) ≡ j * b * q + j * r
    spread j b q r = grind arith

    left : (j a b q r : ℕ) → a ≡ b * q + r → j * a - j * b * q ≡ j * r
    left j a b q r e = let s = ap (λ (k : ℕ). j * k) e ∙ spread j b q r in omega (arith, s)

module _ (a b g : ℕ) (a_some : 0 < a) (b_some : 0 < b) (divides : (g ∣ a) × (g ∣ b)) (scaled : (e j : ℕ) → e ∣ j * a → e ∣ j * b → e ∣ j * g) where
  exact : (z : ℕ) → g ∣ z → z ≡ z / g * g
  exact z h = let m = mod-eq-zero_of_dvd g h in by z g m
    where
      by : (z g : ℕ) → z % g ≡ 0 → z ≡ z / g * g
      by z g m = omega (arith, m)

  pub some : 0 < g
  some = by g divides.0
    where
      by : (g : ℕ) → g ∣ a → 0 < g
      by zero h = absurd (let e = mod-eq-zero_of_dvd zero h in omega (arith, e, a_some))
      by (suc g) h = omega arith

  share-some : (z : ℕ) → g ∣ z → 0 < z → 0 < z / g
  share-some z h positive = by (z / g) (exact z h)
    where
      by : (q : ℕ) → z ≡ q * g → 0 < q
      by zero e = absurd (omega (arith, e, positive))
      by (suc q) e = omega arith

  crossed : (b / g) * a ≡ (a / g) * b
  crossed = ap (λ (k : ℕ). (b / g) * k) (exact a divides.0) ∙ swapped (b / g) (a / g) g ∙ ap (λ (k : ℕ). (a / g) * k) (sym (exact b divides.1))
    where
      swapped : (x y g : ℕ) → x * (y * g) ≡ y * (x * g)
      swapped x y g = grind arith

  least-first : (i j : ℕ) → 0 < i → i * a ≡ j * b → b / g ≤ i
  least-first i j positive e =
      let whole : b ∣ i * g = scaled b i (subst (λ (k : ℕ). b ∣ k) (sym e) (dvd-mul_left b j)) (dvd-mul_left b i) in
      le_of_dvd positive (dvd_of_mul-dvd-mul_right {k = g} (b / g) {n = i} some (subst (λ (k : ℕ). k ∣ i * g) (exact b divides.1) whole))

  least-second : (i j : ℕ) → 0 < j → i * a ≡ j * b → a / g ≤ j
  least-second i j positive e =
      let whole : a ∣ j * g = scaled a j (dvd-mul_left a j) (subst (λ (k : ℕ). a ∣ k) e (dvd-mul_left a i)) in
      le_of_dvd positive (dvd_of_mul-dvd-mul_right {k = g} (a / g) {n = j} some (subst (λ (k : ℕ). k ∣ j * g) (exact a divides.0) whole))

  to-nat : (i j a b : ℕ) → (pos i *ℤ pos a) +ℤ (pos j *ℤ neg_ℤ (pos b)) ≡ pos 0 → i * a ≡ j * b
  to-nat i j a b e = grind (arith, ints, e)

  from-nat : (i j a b : ℕ) → i * a ≡ j * b → (pos i *ℤ pos a) +ℤ (pos j *ℤ neg_ℤ (pos b)) ≡ pos 0
  from-nat i j a b e = grind (arith, ints, e)

  pub cancels : Cancels (pos a) (neg_ℤ (pos b)) (b / g) (a / g)
  cancels = record {
    first = share-some b divides.1 b_some;
    second = share-some a divides.0 a_some;
    cancel = from-nat (b / g) (a / g) a b crossed;
    least = λ i j hi hj e. (least-first i j hi (to-nat i j a b e), least-second i j hj (to-nat i j a b e));
  }

pub some-of : (x : ℤ) (a b g : ℕ) → pos 0 <ℤ x → a ≡ unsigned_abs x → IsGcd a b g → 0 < g
some-of x a b g above a_is is = by g is.0
  where
    size : (x : ℤ) → pos 0 <ℤ x → 0 < unsigned_abs x
    size x h = grind (arith, ints, h)

    by : (g : ℕ) → g ∣ a → 0 < g
    by zero h = absurd (let e = mod-eq-zero_of_dvd zero h in let p = size x above in omega (arith, e, p, a_is))
    by (suc g) h = omega arith

pub cancels-of : (x y : ℤ) (a b g m n : ℕ) → pos 0 <ℤ x → y <ℤ pos 0 → a ≡ unsigned_abs x → b ≡ unsigned_abs y → IsGcd a b g →
    ((e j : ℕ) → e ∣ j * a → e ∣ j * b → e ∣ j * g) → m ≡ unsigned_abs y / g → n ≡ unsigned_abs x / g → Cancels x y m n
cancels-of x y a b g m n above below a_is b_is is scaled m_is n_is =
    let c = cancels a b g (subst (λ (k : ℕ). 0 < k) (sym a_is) (size-above x above)) (subst (λ (k : ℕ). 0 < k) (sym b_is) (size-below y below)) (is.0, is.1) scaled in
    subst (λ (k : ℕ). Cancels x y k n) (ap (λ (k : ℕ). k / g) b_is ∙ sym m_is) (subst (λ (k : ℕ). Cancels x y (b / g) k) (ap (λ (k : ℕ). k / g) a_is ∙ sym n_is)
    (subst (λ (z : ℤ). Cancels z y (b / g) (a / g)) (ap (λ (k : ℕ). pos k) a_is ∙ pos-is x above)
    (subst (λ (z : ℤ). Cancels (pos a) z (b / g) (a / g)) (ap (λ (k : ℕ). neg_ℤ (pos k)) b_is ∙ neg-is y below) c)))
  where
    size-above : (x : ℤ) → pos 0 <ℤ x → 0 < unsigned_abs x
    size-above x h = grind (arith, ints, h)

    size-below : (y : ℤ) → y <ℤ pos 0 → 0 < unsigned_abs y
    size-below y h = grind (arith, ints, h)

    pos-is : (x : ℤ) → pos 0 <ℤ x → pos (unsigned_abs x) ≡ x
    pos-is x h = grind (arith, ints, h)

    neg-is : (y : ℤ) → y <ℤ pos 0 → neg_ℤ (pos (unsigned_abs y)) ≡ y
    neg-is y h = grind (arith, ints, h)
