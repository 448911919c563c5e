-- A sum of two rows divided by the greatest common divisor of its numbers is their combination.
use Rattle.std.proofs.Common.{◌≡◌, ◌≢◌, ◌∙◌, sym, ap, subst, ℕ, zero, suc, ◌<◌, ◌≤◌, ℤ, pos, neg_ℤ, ◌≤ℤ◌, ◌+ℤ◌, ◌*ℤ◌, ◌<ℤ◌, ◌%◌, unsigned_abs, arith}
use Prim.Native.Nat.{◌∣◌}
use Rattle.std.proofs.lemmas.Int.{ints}
use Rattle.std.proofs.lemmas.Nat.Gcd.{mod-eq-zero_of_dvd}
use Rattle.ft_farkas.specs.meaning.Rows.{Row, factor}
use Rattle.ft_farkas.proofs.Arithmetic.{times-up}
use Rattle.ft_farkas.specs.meaning.Kept.{IsNarrow, Cancels, Combines}
use Rattle.ft_farkas.specs.building.Quotients.{quotient_of}
use Rattle.ft_farkas.proofs.DividingLemmas.{quotient-exact, none-greater}

module _ (columns u m n g : ℕ) (r s x : Row)
    (mixed : (c : ℕ) → c < columns → x c ≡ (pos m *ℤ r c) +ℤ (pos n *ℤ s c))
    (divides : (c : ℕ) → c < columns → g ∣ unsigned_abs (x c)) where
  pub some-divisor : ((c : ℕ) × (c < columns) × (((pos m *ℤ r c) +ℤ (pos n *ℤ s c)) ≢ pos 0)) → 0 < g
  some-divisor (c, within, some) = by g (x c) (divides c within) (λ e. some (sym (mixed c within) ∙ e))
    where
      by : (g : ℕ) (z : ℤ) → g ∣ unsigned_abs z → z ≢ pos 0 → 0 < g
      by zero z h some = absurd (some (let e = mod-eq-zero_of_dvd zero h in none z e))
        where
          none : (z : ℤ) → unsigned_abs z % 0 ≡ 0 → z ≡ pos 0
          none z e = grind (arith, ints, e)
      by (suc g) z h some = omega arith

  pub made : (t : Row) → 0 < g → ((c : ℕ) → c < columns → t c ≡ quotient_of (x c) g) →
      ((d : ℕ) → ((c : ℕ) → c < columns → d ∣ unsigned_abs (x c)) → d ∣ g) →
      pos 0 <ℤ factor u r → factor u s <ℤ pos 0 → Cancels (factor u r) (factor u s) m n → Combines columns u r s t
  made t some is greatest above below cancels = record {
    above = above;
    below = below;
    times_first = m;
    times_second = n;
    cancels = cancels;
    divisor = g;
    positive = some;
    divided = λ c within. ap (λ (z : ℤ). pos g *ℤ z) (is c within) ∙ sym (quotient-exact (x c) g (divides c within)) ∙ mixed c within;
    greatest = λ d all. none-greater x columns g some divides greatest d (λ c within. subst (λ (z : ℤ). d ∣ unsigned_abs z) (is c within) (all c within));
  }

-- a product of a multiplier and a number of a row
pub small-product : (m : ℕ) (a : ℤ) → m ≤ 4611686018427387904 → IsNarrow a →
    ((pos m *ℤ a) ≤ℤ pos 21267647932558653966460912964485513216) × (neg_ℤ (pos 21267647932558653966460912964485513216) ≤ℤ (pos m *ℤ a))
small-product m a few narrow =
    let up = times-up m a (pos 4611686018427387904) (high a narrow) in
    let down = times-up m (neg_ℤ (pos 4611686018427387904)) a (low a narrow) in
    (omega (arith, ints, up, few), omega (arith, ints, down, few))
  where
    high : (a : ℤ) → IsNarrow a → a ≤ℤ pos 4611686018427387904
    high a h = grind (arith, ints, h)

    low : (a : ℤ) → IsNarrow a → neg_ℤ (pos 4611686018427387904) ≤ℤ a
    low a h = grind (arith, ints, h)

pub small-sum : (m n : ℕ) (a b : ℤ) → m ≤ 4611686018427387904 → n ≤ 4611686018427387904 → IsNarrow a → IsNarrow b →
    unsigned_abs ((pos m *ℤ a) +ℤ (pos n *ℤ b)) ≤ 42535295865117307932921825928971026432
small-sum m n a b m_few n_few a_narrow b_narrow =
    let l = small-product m a m_few a_narrow in
    let r = small-product n b n_few b_narrow in
    within (pos m *ℤ a) (pos n *ℤ b) l.0 l.1 r.0 r.1
  where
    within : (y z : ℤ) → y ≤ℤ pos 21267647932558653966460912964485513216 → neg_ℤ (pos 21267647932558653966460912964485513216) ≤ℤ y →
        z ≤ℤ pos 21267647932558653966460912964485513216 → neg_ℤ (pos 21267647932558653966460912964485513216) ≤ℤ z → unsigned_abs (y +ℤ z) ≤ 42535295865117307932921825928971026432
    within y z a b c d = omega (arith, ints, a, b, c, d)
