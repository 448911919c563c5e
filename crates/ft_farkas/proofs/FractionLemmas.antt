-- Fractions compared by their floors, and by what is left where the floors are the same.
use Rattle.std.proofs.Common.{◌≡◌, ◌≢◌, ◌∙◌, sym, ap, subst, ℕ, ◌<◌, ℤ, pos, ◌+ℤ◌, ◌*ℤ◌, ◌≤ℤ◌, ◌<ℤ◌, ◌↔◌, Bool, true, false, IsTrue, arith}
use Rattle.std.proofs.lemmas.Int.{ints, by_lt_z}
use Rattle.std.specs.Int.{int_div_euclid, int_rem_euclid}
use Rattle.std.proofs.Math.IntN.{*ℤ_comm}
use Rattle.ft_farkas.proofs.Arithmetic.{mul-add, times-up}
use Rattle.ft_farkas.proofs.Arithmetic.{mul-assoc, times-none}

pub parts : (a : ℤ) (b : ℕ) → 0 < b → a ≡ (pos b *ℤ int_div_euclid a (pos b)) +ℤ int_rem_euclid a (pos b)
parts a b h = grind (arith, ints, h)

swapped : (b d : ℕ) (q : ℤ) → pos b *ℤ (pos d *ℤ q) ≡ pos d *ℤ (pos b *ℤ q)
swapped b d q = sym (mul-assoc b (pos d) q) ∙ ap (λ (z : ℤ). z *ℤ q) (*ℤ_comm (pos b) (pos d)) ∙ mul-assoc d (pos b) q

one-times : (k : ℕ) → pos k *ℤ pos 1 ≡ pos k
one-times k = omega (arith, ints)

-- the two products over the parts of both fractions
module _ (a c q p r s : ℤ) (b d : ℕ) (first : a ≡ (pos b *ℤ q) +ℤ r) (second : c ≡ (pos d *ℤ p) +ℤ s) where
  left : pos d *ℤ a ≡ (pos d *ℤ (pos b *ℤ q)) +ℤ (pos d *ℤ r)
  left = ap (λ (z : ℤ). pos d *ℤ z) first ∙ mul-add (pos d) (pos b *ℤ q) r

  right : pos b *ℤ c ≡ (pos d *ℤ (pos b *ℤ p)) +ℤ (pos b *ℤ s)
  right = ap (λ (z : ℤ). pos b *ℤ z) second ∙ mul-add (pos b) (pos d *ℤ p) s ∙ ap (λ (z : ℤ). z +ℤ (pos b *ℤ s)) (swapped b d p)

  -- the same floors
  pub same-less : q ≡ p → (pos d *ℤ r) <ℤ (pos b *ℤ s) → (pos d *ℤ a) <ℤ (pos b *ℤ c)
  same-less e less = let l = left in let g = right in let m : pos d *ℤ (pos b *ℤ q) ≡ pos d *ℤ (pos b *ℤ p) = ap (λ (z : ℤ). pos d *ℤ (pos b *ℤ z)) e in omega (arith, ints, l, g, m, less)

  pub less-same : q ≡ p → (pos d *ℤ a) <ℤ (pos b *ℤ c) → (pos d *ℤ r) <ℤ (pos b *ℤ s)
  less-same e less = let l = left in let g = right in let m : pos d *ℤ (pos b *ℤ q) ≡ pos d *ℤ (pos b *ℤ p) = ap (λ (z : ℤ). pos d *ℤ (pos b *ℤ z)) e in omega (arith, ints, l, g, m, less)

  pub below : pos 0 ≤ℤ s → r <ℤ pos b → 0 < d → q <ℤ p → (pos d *ℤ a) <ℤ (pos b *ℤ c)
  below s_low r_high d_some less =
      let l = left in let g = right in
      let step = times-up d ((pos b *ℤ q) +ℤ pos b) (pos b *ℤ p) (let u = times-up b (q +ℤ pos 1) p (omega (arith, ints, less)) in let e = mul-add (pos b) q (pos 1) in let o = one-times b in omega (arith, ints, u, e, o)) in
      let apart = mul-add (pos d) (pos b *ℤ q) (pos b) in
      let rest = times-up d (r +ℤ pos 1) (pos b) (omega (arith, ints, r_high)) in
      let rest_apart = mul-add (pos d) r (pos 1) in
      let o = one-times d in
      let low = times-up b (pos 0) s s_low in let n = times-none b in
      omega (arith, ints, l, g, step, apart, rest, rest_apart, o, low, n, d_some)

rest-low : (a : ℤ) (b : ℕ) → 0 < b → pos 0 ≤ℤ int_rem_euclid a (pos b)
rest-low a b h = grind (arith, ints, h)

rest-high : (a : ℤ) (b : ℕ) → 0 < b → int_rem_euclid a (pos b) <ℤ pos b
rest-high a b h = grind (arith, ints, h)

module _ (a c : ℤ) (b d : ℕ) (b_some : 0 < b) (d_some : 0 < d) where
  forward : int_div_euclid a (pos b) <ℤ int_div_euclid c (pos d) → (pos d *ℤ a) <ℤ (pos b *ℤ c)
  forward less = below a c (int_div_euclid a (pos b)) (int_div_euclid c (pos d)) (int_rem_euclid a (pos b)) (int_rem_euclid c (pos d)) b d (parts a b b_some) (parts c d d_some) (rest-low c d d_some) (rest-high a b b_some) d_some less

  back : int_div_euclid c (pos d) <ℤ int_div_euclid a (pos b) → (pos b *ℤ c) <ℤ (pos d *ℤ a)
  back less = below c a (int_div_euclid c (pos d)) (int_div_euclid a (pos b)) (int_rem_euclid c (pos d)) (int_rem_euclid a (pos b)) d b (parts c d d_some) (parts a b b_some) (rest-low a b b_some) (rest-high c d d_some) b_some less

  -- fractions with different floors
  pub by-floors : int_div_euclid a (pos b) ≢ int_div_euclid c (pos d) → (int_div_euclid a (pos b) <ℤ int_div_euclid c (pos d)) ↔ ((pos d *ℤ a) <ℤ (pos b *ℤ c))
  by-floors other = (forward, λ less. by_lt_z (int_div_euclid a (pos b)) (int_div_euclid c (pos d)) (λ lower. lower) (λ higher. absurd (against less higher)))
    where
      against : (pos d *ℤ a) <ℤ (pos b *ℤ c) → int_div_euclid c (pos d) ≤ℤ int_div_euclid a (pos b) → ⊥
      against less higher = let r = back (strict (int_div_euclid c (pos d)) (int_div_euclid a (pos b)) higher (λ e. other (sym e))) in omega (arith, ints, less, r)
        where
          strict : (y z : ℤ) → y ≤ℤ z → y ≢ z → y <ℤ z
          strict y z le ne = grind (arith, ints, le, ne)

  -- fractions with the same floor
  pub by-rests : int_div_euclid a (pos b) ≡ int_div_euclid c (pos d) → ((pos d *ℤ int_rem_euclid a (pos b)) <ℤ (pos b *ℤ int_rem_euclid c (pos d))) ↔ ((pos d *ℤ a) <ℤ (pos b *ℤ c))
  by-rests e = (
    same-less a c (int_div_euclid a (pos b)) (int_div_euclid c (pos d)) (int_rem_euclid a (pos b)) (int_rem_euclid c (pos d)) b d (parts a b b_some) (parts c d d_some) e,
    less-same a c (int_div_euclid a (pos b)) (int_div_euclid c (pos d)) (int_rem_euclid a (pos b)) (int_rem_euclid c (pos d)) b d (parts a b b_some) (parts c d d_some) e,
  )

-- the same of results of tests
pub if-floors : (a c q p : ℤ) (b d : ℕ) → 0 < b → 0 < d → q ≡ int_div_euclid a (pos b) → p ≡ int_div_euclid c (pos d) →
    (same less : Bool) → same ≡ false → (IsTrue same ↔ (q ≡ p)) → (IsTrue less ↔ (q <ℤ p)) → IsTrue less ↔ ((pos d *ℤ a) <ℤ (pos b *ℤ c))
if-floors a c q p b d b_some d_some q_is p_is same less none of_same of_less =
    let other : int_div_euclid a (pos b) ≢ int_div_euclid c (pos d) = λ e. cc (sym none ∙ of_same.1 (q_is ∙ e ∙ sym p_is)) in
    let floors = by-floors a c b d b_some d_some other in (
      λ so. floors.0 (subst (λ (y : ℤ). y <ℤ int_div_euclid c (pos d)) q_is (subst (λ (y : ℤ). q <ℤ y) p_is (of_less.0 so))),
      λ lower. of_less.1 (subst (λ (y : ℤ). y <ℤ p) (sym q_is) (subst (λ (y : ℤ). int_div_euclid a (pos b) <ℤ y) (sym p_is) (floors.1 lower))),
    )

pub if-rests : (a c q p r s x y : ℤ) (b d : ℕ) → 0 < b → 0 < d → q ≡ int_div_euclid a (pos b) → p ≡ int_div_euclid c (pos d) →
    r ≡ int_rem_euclid a (pos b) → s ≡ int_rem_euclid c (pos d) → x ≡ pos d *ℤ r → y ≡ pos b *ℤ s →
    (same less : Bool) → same ≡ true → (IsTrue same ↔ (q ≡ p)) → (IsTrue less ↔ (x <ℤ y)) → IsTrue less ↔ ((pos d *ℤ a) <ℤ (pos b *ℤ c))
if-rests a c q p r s x y b d b_some d_some q_is p_is r_is s_is x_is y_is same less so of_same of_less =
    let e : int_div_euclid a (pos b) ≡ int_div_euclid c (pos d) = sym q_is ∙ of_same.0 so ∙ p_is in
    let rests = by-rests a c b d b_some d_some e in
    let left : x ≡ pos d *ℤ int_rem_euclid a (pos b) = x_is ∙ ap (λ (z : ℤ). pos d *ℤ z) r_is in
    let right : y ≡ pos b *ℤ int_rem_euclid c (pos d) = y_is ∙ ap (λ (z : ℤ). pos b *ℤ z) s_is in (
      λ h. rests.0 (subst (λ (z : ℤ). z <ℤ (pos b *ℤ int_rem_euclid c (pos d))) left (subst (λ (z : ℤ). x <ℤ z) right (of_less.0 h))),
      λ h. of_less.1 (subst (λ (z : ℤ). z <ℤ y) (sym left) (subst (λ (z : ℤ). (pos d *ℤ int_rem_euclid a (pos b)) <ℤ z) (sym right) (rests.1 h))),
    )
