-- Bounds that rows put on an unknown, compared by products.
use Rattle.std.proofs.Common.{◌≡◌, ◌≢◌, ◌∙◌, sym, ap, subst, refl, ℕ, zero, suc, ◌+◌, ◌<◌, ◌≤◌, ℤ, pos, negsuc, neg_ℤ, ◌+ℤ◌, ◌*ℤ◌, ◌<ℤ◌, ◌≤ℤ◌, ◌↔◌, List, IsTrue, Bool, true, false, nat_eq, unsigned_abs, arith}
use Rattle.std.proofs.lemmas.Int.{ints, by_lt_z}
use Rattle.std.proofs.Math.IntN.{*ℤ_comm}
use Rattle.ft_farkas.proofs.Arithmetic.{mul-assoc, mul-neg, neg-mul, times-next, times-up}
use Rattle.ft_farkas.specs.meaning.Rows.{Row, factor}
use Rattle.ft_farkas.specs.meaning.Kept.{row_in}
use Rattle.ft_farkas.specs.meaning.Fractions.{IsBelow, BoundsBelow, BoundsAbove}
use Rattle.ft_farkas.specs.building.Points.{dot, excess, IsTop, IsBound, AllUnder, NoneOver}

-- a comparison of fractions, whichever the sign of the factor
pub above-is : (f v l t : ℤ) (times : ℕ) (b : Bool) → 0 < unsigned_abs f → (pos 0 <ℤ f → t ≡ neg_ℤ l) → (f <ℤ pos 0 → t ≡ l) →
    (IsTrue b ↔ ((pos (unsigned_abs f) *ℤ t) <ℤ (pos times *ℤ v))) → IsTrue b ↔ (pos 0 <ℤ ((pos times *ℤ v) +ℤ (f *ℤ l)))
above-is (pos a) v l t times b some above below is =
    let turned : (pos a *ℤ t) +ℤ (pos a *ℤ l) ≡ pos 0 = ap (λ (z : ℤ). (pos a *ℤ z) +ℤ (pos a *ℤ l)) (above (omega (arith, ints, some))) ∙ mul-neg (pos a) l in
    (λ so. let h = is.0 so in omega (arith, ints, h, turned), λ h. is.1 (omega (arith, ints, h, turned)))
above-is (negsuc a) v l t times b some above below is =
    let same : pos (suc a) *ℤ t ≡ pos (suc a) *ℤ l = ap (λ (z : ℤ). pos (suc a) *ℤ z) (below (omega (arith, ints))) in
    let turned : (negsuc a *ℤ l) +ℤ (pos (suc a) *ℤ l) ≡ pos 0 = neg-mul (pos (suc a)) l in
    (λ so. let h = is.0 so in omega (arith, ints, h, turned, same), λ h. is.1 (omega (arith, ints, h, turned, same)))

-- the last unknown that is left
pub last-is : (n u top : ℕ) (r : Row) (b : Bool) → u < n → IsTop n r top → (IsTrue b ↔ (top ≡ suc u)) → IsTrue b ↔ (IsBelow n (suc u) r × (factor u r ≢ pos 0))
last-is n u top r b within is test = (
  λ so. let e = test.0 so in (subst (λ (t : ℕ). IsBelow n t r) e is.1, is.2 u e),
  λ h. test.1 (same top is h.0 h.1),
)
  where
    same : (top : ℕ) → IsTop n r top → IsBelow n (suc u) r → factor u r ≢ pos 0 → top ≡ suc u
    same zero is none some = absurd (some (is.1 u (omega arith) within))
    same (suc w) is none some = by_lt w u (λ low. absurd (some (is.1 u low within))) (λ high. absurd (is.2 w refl (none w high (omega (arith, is.0))))) (λ e. ap suc e)
      where
        by_lt : (a b : ℕ) → {X : Type 0} → (suc a ≤ b → X) → (suc b ≤ a → X) → (a ≡ b → X) → X
        by_lt zero zero l g e = e refl
        by_lt zero (suc b) l g e = l (omega arith)
        by_lt (suc a) zero l g e = g (omega arith)
        by_lt (suc a) (suc b) l g e = by_lt a b (λ h. l (omega (arith, h))) (λ h. g (omega (arith, h))) (λ h. e (ap suc h))

-- a common factor taken off both sides
pub le-cancel : (k : ℕ) (y z : ℤ) → 0 < k → (pos k *ℤ y) ≤ℤ (pos k *ℤ z) → y ≤ℤ z
le-cancel k y z some le = by_lt_z z y
    (λ less. absurd (let up = times-up k (z +ℤ pos 1) y (omega (arith, ints, less)) in let e = times-next k z in omega (arith, ints, up, e, le, some)))
    (λ other. omega (arith, ints, other))

swap : (a b : ℕ) (z : ℤ) → pos a *ℤ (pos b *ℤ z) ≡ pos b *ℤ (pos a *ℤ z)
swap a b z = sym (mul-assoc a (pos b) z) ∙ ap (λ (y : ℤ). y *ℤ z) (*ℤ_comm (pos a) (pos b)) ∙ mul-assoc b (pos a) z

under-both : (m k a : ℕ) (r l g : ℤ) → 0 < m → (pos m *ℤ r) ≤ℤ (pos a *ℤ l) → (pos k *ℤ l) ≤ℤ (pos m *ℤ g) → (pos k *ℤ r) ≤ℤ (pos a *ℤ g)
under-both m k a r l g some first second =
    let up = times-up k (pos m *ℤ r) (pos a *ℤ l) first in
    let more = times-up a (pos k *ℤ l) (pos m *ℤ g) second in
    let e = swap k m r in let f = swap k a l in let h = swap a m g in
    le-cancel m (pos k *ℤ r) (pos a *ℤ g) some (omega (arith, ints, up, more, e, f, h))

negative-is : (f l : ℤ) (a : ℕ) → f ≡ neg_ℤ (pos a) → (f *ℤ l) +ℤ (pos a *ℤ l) ≡ pos 0
negative-is f l a e = ap (λ (z : ℤ). (z *ℤ l) +ℤ (pos a *ℤ l)) e ∙ neg-mul (pos a) l

size-is : (f : ℤ) → f <ℤ pos 0 → f ≡ neg_ℤ (pos (unsigned_abs f))
size-is (pos a) h = absurd (omega (arith, ints, h))
size-is (negsuc a) h = omega (arith, ints)

module _ (n u : ℕ) (kept : List (List ℤ)) (x : Row) where
  pub some-times : (at : ℕ) (value : ℤ) (times : ℕ) → IsBound n u kept x at value times → 0 < times
  some-times at value times is = by times is.is_times is.bound.0
    where
      by : (t : ℕ) → factor u (row_in kept at) ≡ neg_ℤ (pos t) → factor u (row_in kept at) <ℤ pos 0 → 0 < t
      by t e h = omega (arith, ints, e, h)

  -- a bound is not above itself
  pub own-excess : (at : ℕ) (value : ℤ) (times : ℕ) → IsBound n u kept x at value times → excess u (row_in kept at) x times value ≡ pos 0
  own-excess at value times is =
      let e : pos times *ℤ dot (suc u) (row_in kept at) x ≡ pos times *ℤ value = ap (λ (z : ℤ). pos times *ℤ z) (sym is.is_value) in
      let f = negative-is (factor u (row_in kept at)) value times is.is_times in
      omega (arith, ints, e, f)

  pub own-none : (at : ℕ) (value : ℤ) (times : ℕ) → IsBound n u kept x at value times → excess u (row_in kept at) x times value ≤ℤ pos 0
  own-none at value times is = let e = own-excess at value times is in omega (arith, ints, e)

  -- of two bounds one is not above the other where that one is above it
  pub other-excess : (at other : ℕ) (value w : ℤ) (times s : ℕ) → IsBound n u kept x at value times → IsBound n u kept x other w s →
      pos 0 <ℤ excess u (row_in kept other) x times value → excess u (row_in kept at) x s w ≤ℤ pos 0
  other-excess at other value w times s is own above =
      let a : pos times *ℤ dot (suc u) (row_in kept other) x ≡ pos times *ℤ w = ap (λ (z : ℤ). pos times *ℤ z) (sym own.is_value) in
      let b = negative-is (factor u (row_in kept other)) value s own.is_times in
      let c : pos s *ℤ dot (suc u) (row_in kept at) x ≡ pos s *ℤ value = ap (λ (z : ℤ). pos s *ℤ z) (sym is.is_value) in
      let d = negative-is (factor u (row_in kept at)) w times is.is_times in
      omega (arith, ints, a, b, c, d, above)

  -- what is not above a bound is not above a greater one
  pub none-more : (count at after : ℕ) (value w : ℤ) (times s : ℕ) → IsBound n u kept x at value times → IsBound n u kept x after w s →
      AllUnder n u kept x count value times → excess u (row_in kept at) x s w ≤ℤ pos 0 →
      (BoundsBelow n u (row_in kept count) → excess u (row_in kept count) x s w ≤ℤ pos 0) → AllUnder n u kept x (count + 1) w s
  none-more count at after value w times s is later under over own k below bound = by (nat_eq k count) refl
    where
      same : (a b : ℕ) → nat_eq a b ≡ true → a ≡ b
      same a b e = grind (arith, e)

      less : (a b : ℕ) → nat_eq a b ≡ false → a < b + 1 → a < b
      less a b e h = grind (arith, e, h)

      by : (b : Bool) → nat_eq k count ≡ b → excess u (row_in kept k) x s w ≤ℤ pos 0
      by true e = subst (λ (j : ℕ). excess u (row_in kept j) x s w ≤ℤ pos 0) (sym (same k count e)) (own (subst (λ (j : ℕ). BoundsBelow n u (row_in kept j)) (same k count e) bound))
      by false e =
          let f = factor u (row_in kept k) in
          let first = under k (less k count e below) bound in
          let a = negative-is f value (unsigned_abs f) (size-is f bound.0) in
          let b = negative-is f w (unsigned_abs f) (size-is f bound.0) in
          let c : pos s *ℤ dot (suc u) (row_in kept at) x ≡ pos s *ℤ value = ap (λ (z : ℤ). pos s *ℤ z) (sym is.is_value) in
          let d = negative-is (factor u (row_in kept at)) w times is.is_times in
          let all = under-both times s (unsigned_abs f) (dot (suc u) (row_in kept k) x) value w (some-times at value times is) (omega (arith, ints, first, a)) (omega (arith, ints, over, c, d)) in
          omega (arith, ints, all, b)

-- one column more
pub dot-more : (r x : Row) (c : ℕ) → dot c r x +ℤ (r c *ℤ x c) ≡ dot (c + 1) r x
dot-more r x c = let e : suc c ≡ c + 1 = omega arith in ap (λ (k : ℕ). dot k r x) e

pub last-test : (n u top : ℕ) (r : Row) → u < n → IsTop n r top → IsTrue (nat_eq top (u + 1)) ↔ (IsBelow n (u + 1) r × (factor u r ≢ pos 0))
last-test n u top r within is = subst (λ (k : ℕ). IsTrue (nat_eq top (u + 1)) ↔ (IsBelow n k r × (factor u r ≢ pos 0))) next
    (last-is n u top r (nat_eq top (u + 1)) within is (λ so. same top u so, λ e. back top u e))
  where
    next : suc u ≡ u + 1
    next = omega arith

    same : (t u : ℕ) → IsTrue (nat_eq t (u + 1)) → t ≡ suc u
    same t u h = grind (arith, h)

    back : (t u : ℕ) → t ≡ suc u → IsTrue (nat_eq t (u + 1))
    back t u e = grind (arith, e)

pub excess-test : (u : ℕ) (r x : Row) (times : ℕ) (l v f : ℤ) (b : Bool) → v ≡ dot (u + 1) r x → f ≡ r (u + 1) →
    (IsTrue b ↔ (pos 0 <ℤ ((pos times *ℤ v) +ℤ (f *ℤ l)))) → IsTrue b ↔ (pos 0 <ℤ excess u r x times l)
excess-test u r x times l v f b v_is f_is h =
    subst (λ (z : ℤ). IsTrue b ↔ (pos 0 <ℤ ((pos times *ℤ z) +ℤ (factor u r *ℤ l)))) (v_is ∙ sym (dot-more r x u))
    (subst (λ (z : ℤ). IsTrue b ↔ (pos 0 <ℤ ((pos times *ℤ v) +ℤ (z *ℤ l)))) (f_is ∙ ap r next) h)
  where
    next : u + 1 ≡ suc u
    next = omega arith

-- one row more that is no upper bound below
pub none-over : (n u : ℕ) (kept : List (List ℤ)) (x : Row) (count times : ℕ) (value : ℤ) (b : Bool) → NoneOver n u kept x count value times →
    (IsTrue b ↔ (BoundsAbove n u (row_in kept count) × (pos 0 <ℤ excess u (row_in kept count) x times value))) → b ≡ false → NoneOver n u kept x (count + 1) value times
none-over n u kept x count times value b under is isnt k below bound = by (nat_eq k count) refl
  where
    differ : (b : Bool) → b ≡ false → IsTrue b → ⊥
    differ b e so = grind (arith, e, so)

    same : (a b : ℕ) → nat_eq a b ≡ true → a ≡ b
    same a b e = grind (arith, e)

    less : (a b : ℕ) → nat_eq a b ≡ false → a < b + 1 → a < b
    less a b e h = grind (arith, e, h)

    by : (t : Bool) → nat_eq k count ≡ t → excess u (row_in kept k) x times value ≤ℤ pos 0
    by false e = under k (less k count e below) bound
    by true e = by_lt_z (pos 0) (excess u (row_in kept k) x times value)
        (λ h. absurd (differ b isnt (is.1 (subst (λ (j : ℕ). BoundsAbove n u (row_in kept j) × (pos 0 <ℤ excess u (row_in kept j) x times value)) (same k count e) (bound, h)))))
        (λ other. omega (arith, ints, other))
