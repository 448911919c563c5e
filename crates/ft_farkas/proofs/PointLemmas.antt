-- Values of rows at fractions: a combination of two rows that clash is positive there, so that it is no row that is met.
use Rattle.std.proofs.Common.{◌≡◌, ◌∙◌, sym, ap, subst, refl, ℕ, zero, suc, ◌<◌, ◌≤◌, ℤ, pos, negsuc, ◌+ℤ◌, ◌*ℤ◌, ◌≤ℤ◌, ◌<ℤ◌, neg_ℤ, unsigned_abs, Bool, true, false, arith}
use Rattle.std.specs.Prelude.{nat_eq}
use Rattle.ft_farkas.proofs.Arithmetic.{eq-nat}
use Rattle.ft_farkas.specs.meaning.Kept.{Combines}
use Rattle.std.proofs.lemmas.Int.{ints}
use Rattle.std.proofs.Math.IntN.{zero-*ℤ, *ℤ_comm}
use Rattle.ft_farkas.proofs.Arithmetic.{mul-add, mul-neg, times-up}
use Rattle.ft_farkas.proofs.Arithmetic.{mul-assoc, times-none}
use Rattle.ft_farkas.specs.meaning.Rows.{Row, constant, factor}
use Rattle.ft_farkas.specs.meaning.Fractions.{sum_below, row_at, IsBelow}
use Rattle.ft_farkas.proofs.SumLemmas.{blend-times, cancel-times}

module _ (g m n : ℕ) (r s t : Row) (x : ℕ → ℤ) (d : ℤ) (columns : ℕ)
    (divided : (c : ℕ) → c < columns → pos g *ℤ t c ≡ (pos m *ℤ r c) +ℤ (pos n *ℤ s c)) where
  sum-combined : (u : ℕ) → suc u ≤ columns → pos g *ℤ sum_below u t x ≡ (pos m *ℤ sum_below u r x) +ℤ (pos n *ℤ sum_below u s x)
  sum-combined zero h = let a = times-none g in let b = times-none m in let c = times-none n in omega (arith, ints, a, b, c)
  sum-combined (suc u) h =
      let rest = sum-combined u (omega (arith, h)) in
      let one = blend-times g m n (factor u t) (factor u r) (factor u s) (x u) (divided (suc u) (omega (arith, h))) in
      let a = mul-add (pos g) (sum_below u t x) (factor u t *ℤ x u) in
      let b = mul-add (pos m) (sum_below u r x) (factor u r *ℤ x u) in
      let c = mul-add (pos n) (sum_below u s x) (factor u s *ℤ x u) in
      omega (arith, ints, rest, one, a, b, c)

  turned-product : (k : ℕ) (y : Row) → pos k *ℤ (d *ℤ constant y) ≡ pos k *ℤ (constant y *ℤ d)
  turned-product k y = ap (λ (z : ℤ). pos k *ℤ z) (*ℤ_comm d (constant y))

  -- the value of the combination is the combination of the values
  pub row-combined : (u : ℕ) → suc u ≤ columns → pos g *ℤ row_at u t x d ≡ (pos m *ℤ row_at u r x d) +ℤ (pos n *ℤ row_at u s x d)
  row-combined u h =
      let rest = sum-combined u h in
      let one = blend-times g m n (constant t) (constant r) (constant s) d (divided 0 (omega (arith, h))) in
      let a = mul-add (pos g) (d *ℤ constant t) (sum_below u t x) in
      let b = mul-add (pos m) (d *ℤ constant r) (sum_below u r x) in
      let c = mul-add (pos n) (d *ℤ constant s) (sum_below u s x) in
      let ta = turned-product g t in let tb = turned-product m r in let tc = turned-product n s in
      omega (arith, ints, rest, one, a, b, c, ta, tb, tc)

  -- two rows that are met leave their combination met: it is implied
  pub implied : (u : ℕ) → suc u ≤ columns → 0 < g → row_at u r x d ≤ℤ pos 0 → row_at u s x d ≤ℤ pos 0 → row_at u t x d ≤ℤ pos 0
  implied u h positive r_met s_met =
      let all = row-combined u h in
      let a = times-up m (row_at u r x d) (pos 0) r_met in let an = times-none m in
      let b = times-up n (row_at u s x d) (pos 0) s_met in let bn = times-none n in
      under g (row_at u t x d) positive (omega (arith, ints, all, a, b, an, bn))
    where
      under : (k : ℕ) (z : ℤ) → 0 < k → (pos k *ℤ z) ≤ℤ pos 0 → z ≤ℤ pos 0
      under k (pos zero) h le = omega (arith, ints)
      under k (pos (suc a)) h le = absurd (let up = times-up k (pos 1) (pos (suc a)) (omega (arith, ints)) in let e = times-one k in omega (arith, ints, up, le, h, e))
        where
          times-one : (k : ℕ) → pos k *ℤ pos 1 ≡ pos k
          times-one k = omega (arith, ints)
      under k (negsuc a) h le = omega (arith, ints)

-- rows that are the same but for positive factors have the same sign
pub same-sign : (m n : ℕ) (r s : Row) (x : ℕ → ℤ) (d : ℤ) (u : ℕ) → 0 < m → 0 < n → ((c : ℕ) → c ≤ u → pos m *ℤ r c ≡ pos n *ℤ s c) → row_at u s x d ≤ℤ pos 0 → row_at u r x d ≤ℤ pos 0
same-sign m n r s x d u hm hn same met =
    implied m n 0 s s r x d (suc u) (λ c below. let e = same c (omega (arith, below)) in let z = zero-*ℤ (s c) in omega (arith, ints, e, z)) u (omega arith) hm met met

-- an upper and a lower bound that clash at fractions: by their cross products, and by the multipliers that cancel the unknown
pub clash : (a b m n : ℕ) (upper lower : ℤ) → 0 < m → 0 < b → pos m *ℤ pos a ≡ pos n *ℤ pos b →
    pos 0 <ℤ ((pos a *ℤ lower) +ℤ (pos b *ℤ upper)) → pos 0 <ℤ ((pos m *ℤ upper) +ℤ (pos n *ℤ lower))
clash a b m n upper lower m_some b_some cancel cross =
    let up = times-up m (pos 1) ((pos a *ℤ lower) +ℤ (pos b *ℤ upper)) (omega (arith, ints, cross)) in
    let apart = mul-add (pos m) (pos a *ℤ lower) (pos b *ℤ upper) in
    let one : pos m *ℤ pos 1 ≡ pos m = unit m in
    let first : pos m *ℤ (pos a *ℤ lower) ≡ pos b *ℤ (pos n *ℤ lower) =
    sym (mul-assoc m (pos a) lower) ∙ ap (λ (z : ℤ). z *ℤ lower) (cancel ∙ *ℤ_comm (pos n) (pos b)) ∙ mul-assoc b (pos n) lower in
    let second : pos m *ℤ (pos b *ℤ upper) ≡ pos b *ℤ (pos m *ℤ upper) =
    sym (mul-assoc m (pos b) upper) ∙ ap (λ (z : ℤ). z *ℤ upper) (*ℤ_comm (pos m) (pos b)) ∙ mul-assoc b (pos m) upper in
    let joined = mul-add (pos b) (pos m *ℤ upper) (pos n *ℤ lower) in
    above b ((pos m *ℤ upper) +ℤ (pos n *ℤ lower)) b_some (omega (arith, ints, up, apart, one, first, second, joined, m_some))
  where
    unit : (k : ℕ) → pos k *ℤ pos 1 ≡ pos k
    unit k = omega (arith, ints)

    above : (k : ℕ) (z : ℤ) → 0 < k → pos 0 <ℤ (pos k *ℤ z) → pos 0 <ℤ z
    above k (pos zero) h lt = absurd (let e = times-none k in omega (arith, ints, lt, e))
    above k (pos (suc c)) h lt = omega (arith, ints)
    above k (negsuc c) h lt = absurd (let d = times-up k (negsuc c) (pos 0) (omega (arith, ints)) in let e = times-none k in omega (arith, ints, lt, d, e))

-- a combination that is positive at the fractions is no row that they meet, nor a positive multiple of one
pub is-new : (m n : ℕ) (t old : Row) (x : ℕ → ℤ) (d : ℤ) (u : ℕ) → 0 < m → 0 < n → ((c : ℕ) → c ≤ u → pos m *ℤ t c ≡ pos n *ℤ old c) →
    row_at u old x d ≤ℤ pos 0 → pos 0 <ℤ row_at u t x d → ⊥
is-new m n t old x d u hm hn same met above = let low = same-sign m n t old x d u hm hn same met in omega (arith, ints, low, above)

-- factors that cancel, by their sizes
pub cross-is : (m n : ℕ) (y z : ℤ) → pos 0 <ℤ y → z <ℤ pos 0 → (pos m *ℤ y) +ℤ (pos n *ℤ z) ≡ pos 0 → pos m *ℤ pos (unsigned_abs y) ≡ pos n *ℤ pos (unsigned_abs z)
cross-is m n y z above below e =
    let first : pos m *ℤ pos (unsigned_abs y) ≡ pos m *ℤ y = ap (λ (k : ℤ). pos m *ℤ k) (pos-is y above) in
    let second : pos n *ℤ neg_ℤ (pos (unsigned_abs z)) ≡ pos n *ℤ z = ap (λ (k : ℤ). pos n *ℤ k) (neg-is z below) in
    let turned = mul-neg (pos n) (pos (unsigned_abs z)) in
    omega (arith, ints, first, second, turned, e)
  where
    pos-is : (y : ℤ) → pos 0 <ℤ y → pos (unsigned_abs y) ≡ y
    pos-is y h = grind (arith, ints, h)

    neg-is : (z : ℤ) → z <ℤ pos 0 → neg_ℤ (pos (unsigned_abs z)) ≡ z
    neg-is z h = grind (arith, ints, h)

-- the combination of two rows that clash has only unknowns before that one, and is positive at their fractions
module _ (columns unknowns u : ℕ) (r s t : Row) (x : ℕ → ℤ) (d : ℤ) (made : Combines columns u r s t) (within : u < unknowns) (fits : suc unknowns ≤ columns) where
  pub clash-positive : pos 0 <ℤ ((pos (unsigned_abs (factor u r)) *ℤ row_at u s x d) +ℤ (pos (unsigned_abs (factor u s)) *ℤ row_at u r x d)) → pos 0 <ℤ row_at u t x d
  clash-positive cross =
      let all = row-combined made.divisor made.times_first made.times_second r s t x d columns made.divided u (omega (arith, within, fits)) in
      let sum = clash (unsigned_abs (factor u r)) (unsigned_abs (factor u s)) made.times_first made.times_second (row_at u r x d) (row_at u s x d) made.cancels.first (size (factor u s) made.below)
      (cross-is made.times_first made.times_second (factor u r) (factor u s) made.above made.below made.cancels.cancel) cross in
      positive made.divisor (row_at u t x d) (omega (arith, ints, all, sum))
    where
      size : (z : ℤ) → z <ℤ pos 0 → 0 < unsigned_abs z
      size z h = grind (arith, ints, h)

      positive : (k : ℕ) (z : ℤ) → pos 0 <ℤ (pos k *ℤ z) → pos 0 <ℤ z
      positive k (pos zero) lt = absurd (let e = times-none k in omega (arith, ints, lt, e))
      positive k (pos (suc c)) lt = omega (arith, ints)
      positive k (negsuc c) lt = absurd (let d = times-up k (negsuc c) (pos 0) (omega (arith, ints)) in let e = times-none k in omega (arith, ints, lt, d, e))

  pub clash-below : IsBelow unknowns (suc u) r → IsBelow unknowns (suc u) s → IsBelow unknowns u t
  clash-below r_below s_below v low high =
      cancel-times made.divisor (factor v t) (pos 0) made.positive (made.divided (suc v) (omega (arith, high, fits)) ∙ none (nat_eq v u) refl ∙ sym (times-none made.divisor))
    where
      none : (b : Bool) → nat_eq v u ≡ b → (pos made.times_first *ℤ factor v r) +ℤ (pos made.times_second *ℤ factor v s) ≡ pos 0
      none true e = subst (λ (k : ℕ). (pos made.times_first *ℤ factor k r) +ℤ (pos made.times_second *ℤ factor k s) ≡ pos 0) (sym (eq-nat v u e)) made.cancels.cancel
      none false e =
          let above : suc u ≤ v = over v u low e in
          let a : pos made.times_first *ℤ factor v r ≡ pos 0 = ap (λ (z : ℤ). pos made.times_first *ℤ z) (r_below v above high) ∙ times-none made.times_first in
          let b : pos made.times_second *ℤ factor v s ≡ pos 0 = ap (λ (z : ℤ). pos made.times_second *ℤ z) (s_below v above high) ∙ times-none made.times_second in
          omega (arith, ints, a, b)
        where
          over : (v u : ℕ) → u ≤ v → nat_eq v u ≡ false → suc u ≤ v
          over v u low e = grind (arith, low, e)
