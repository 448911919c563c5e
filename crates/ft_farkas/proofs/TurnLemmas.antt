-- The row that two clashing bounds give.
use Rattle.std.proofs.Common.{◌≡◌, ◌≢◌, ◌∙◌, sym, ap, subst, ℕ, zero, suc, ◌+◌, ◌<◌, ◌≤◌, ℤ, pos, neg_ℤ, ◌+ℤ◌, ◌*ℤ◌, ◌<ℤ◌, ◌↔◌, List, [], ◌∷◌, ◌++◌, length, IsTrue, Bool, unsigned_abs, arith}
use Rattle.std.specs.Prelude.{All}
use Rattle.std.proofs.lemmas.Int.{ints, by_lt_z}
use Rattle.std.proofs.Math.IntN.{zero-*ℤ}
use Rattle.ft_farkas.specs.meaning.Rows.{Row, row_of, constant, factor, width}
use Rattle.ft_farkas.specs.meaning.Kept.{row_in, IsNarrow, Cancels, Combines, IsDerived}
use Rattle.ft_farkas.specs.meaning.Fractions.{row_at, IsBelow}
use Rattle.ft_farkas.specs.meaning.Answers.{AreSame}
use Rattle.ft_farkas.specs.building.Points.{dot}
use Rattle.ft_farkas.specs.building.Turns.{ClashAt}
use Rattle.ft_farkas.proofs.Arithmetic.{times-none}
use Rattle.ft_farkas.proofs.SumLemmas.{cancel-times}
use Rattle.ft_farkas.proofs.PointLemmas.{clash, cross-is, clash-positive, clash-below, is-new, row-combined}
use Rattle.ft_farkas.proofs.GivingLemmas.{dot-row}
use Rattle.ft_farkas.proofs.TableLemmas.{more-new}

-- a sum that is positive has a column that isn't 0
pub some-column : (n : ℕ) (t x : Row) → pos 0 <ℤ dot n t x → (c : ℕ) × (c < n) × (t c ≢ pos 0)
some-column zero t x above = absurd (omega (arith, ints, above))
some-column (suc n) t x above = by_lt_z (t n) (pos 0)
    (λ less. (n, omega arith, λ e. omega (arith, ints, less, e)))
    (λ other. by_lt_z (pos 0) (t n) (λ more. (n, omega arith, λ e. omega (arith, ints, more, e))) (λ same. rest (some-column n t x) (omega (arith, ints, other, same))))
  where
    rest : (pos 0 <ℤ dot n t x → (c : ℕ) × (c < n) × (t c ≢ pos 0)) → t n ≡ pos 0 → (c : ℕ) × (c < suc n) × (t c ≢ pos 0)
    rest before e =
        let none : t n *ℤ x n ≡ pos 0 = ap (λ (z : ℤ). z *ℤ x n) e ∙ zero-*ℤ (x n) in
        let w = before (omega (arith, ints, above, none)) in
        (w.0, later w.0 n w.1, w.2)
      where
        later : (c n : ℕ) → c < n → c < suc n
        later c n h = omega (arith, h)

pub cancels-same : (u : ℕ) (r s : Row) (a b : ℤ) (m n : ℕ) → a ≡ r (u + 1) → b ≡ s (u + 1) → Cancels a b m n → Cancels (factor u r) (factor u s) m n
cancels-same u r s a b m n a_is b_is is = subst (λ (z : ℤ). Cancels z (factor u s) m n) (a_is ∙ ap r next) (subst (λ (z : ℤ). Cancels a z m n) (b_is ∙ ap s next) is)
  where
    next : u + 1 ≡ suc u
    next = omega arith

pub all-narrow : (row : List ℤ) → ((c : ℕ) → c < length row → IsNarrow (row_of row c)) → All IsNarrow row
all-narrow [] each k d below = absurd (omega (arith, below))
all-narrow (x ∷ row) each zero d below = each 0 (omega arith)
all-narrow (x ∷ row) each (suc k) d below = all-narrow row (λ c low. each (suc c) (omega (arith, low))) k d (omega (arith, below))

module _ (n u : ℕ) (kept : List (List ℤ)) (upper lower : ℕ) (at : ClashAt n kept u upper lower) where
  abbrev x : ℕ → ℤ
  x v = at.x (suc v)

  abbrev d : ℤ
  d = at.x 0

  abbrev r : Row
  r = row_in kept upper

  abbrev s : Row
  s = row_in kept lower

  cross : pos 0 <ℤ ((pos (unsigned_abs (factor u r)) *ℤ row_at u s x d) +ℤ (pos (unsigned_abs (factor u s)) *ℤ row_at u r x d))
  cross =
      let first = pos-is (factor u r) at.above.0 in
      let second = size-is (factor u s) at.times at.bound.is_times in
      let a : pos (unsigned_abs (factor u r)) *ℤ row_at u s x d ≡ factor u r *ℤ at.value = (λ i. first i *ℤ (sym (dot-row u s at.x) ∙ sym at.bound.is_value) i) in
      let b : pos (unsigned_abs (factor u s)) *ℤ row_at u r x d ≡ pos at.times *ℤ dot (suc u) r at.x = (λ i. pos (second i) *ℤ sym (dot-row u r at.x) i) in
      let over = at.over in
      omega (arith, ints, a, b, over)
    where
      pos-is : (y : ℤ) → pos 0 <ℤ y → pos (unsigned_abs y) ≡ y
      pos-is y h = grind (arith, ints, h)

      size-is : (y : ℤ) (k : ℕ) → y ≡ neg_ℤ (pos k) → unsigned_abs y ≡ k
      size-is y k h = grind (arith, ints, h)

  some-size : 0 < unsigned_abs (factor u s)
  some-size = by (factor u s) at.bound.bound.0
    where
      by : (z : ℤ) → z <ℤ pos 0 → 0 < unsigned_abs z
      by z h = grind (arith, ints, h)

  -- not all columns of the combination are 0
  pub clash-some : (m k columns : ℕ) → suc u ≤ columns → Cancels (factor u (row_in kept upper)) (factor u (row_in kept lower)) m k →
      (c : ℕ) × (c < columns) × (((pos m *ℤ row_in kept upper c) +ℤ (pos k *ℤ row_in kept lower c)) ≢ pos 0)
  clash-some m k columns fits cancels =
      let t : Row = λ c. (pos m *ℤ r c) +ℤ (pos k *ℤ s c) in
      let sum = row-combined 1 m k r s t x d (suc u) (λ c below. once (t c)) u (omega arith) in
      let own = clash (unsigned_abs (factor u r)) (unsigned_abs (factor u s)) m k (row_at u r x d) (row_at u s x d) cancels.first some-size
      (cross-is m k (factor u r) (factor u s) at.above.0 at.bound.bound.0 cancels.cancel) cross in
      let one = once (row_at u t x d) in
      let value = dot-row u t at.x in
      let w = some-column (suc u) t at.x (omega (arith, ints, sum, own, one, value)) in
      (w.0, later w.0 w.1, w.2)
    where
      once : (z : ℤ) → pos 1 *ℤ z ≡ z
      once z = omega (arith, ints)

      later : (c : ℕ) → c < suc u → c < columns
      later c h = omega (arith, h, fits)

  -- the combination is no row that is kept
  pub apart-new : (t : Row) → Combines (width n) u (row_in kept upper) (row_in kept lower) t → (k : ℕ) → k < length kept → AreSame n t (row_in kept k) → ⊥
  apart-new t made k below same =
      let within = at.within in
      let above = clash-positive (width n) n u r s t x d made at.within (omega arith) cross in
      let none = clash-below (width n) n u r s t x d made at.within (omega arith) at.above.1 at.bound.bound.1 in
      is-new same.times_first same.times_second t (row_in kept k) x d u same.positive_first same.positive_second
      (λ c low. same.same c (omega (arith, low, within)))
      (at.given.meet k below (λ v low high. cancel-times same.times_second (factor v (row_in kept k)) (pos 0) same.positive_second
      (sym (same.same (suc v) high) ∙ ap (λ (z : ℤ). pos same.times_first *ℤ z) (none v low high) ∙ times-none same.times_first ∙ sym (times-none same.times_second))))
      above

  pub derived-row : (row : List ℤ) → Combines (width n) u (row_in kept upper) (row_in kept lower) (row_of row) → ((c : ℕ) → IsNarrow (row_of row c)) → IsDerived n kept (length kept) (row_of row)
  derived-row row made narrow = record {
    unknown = u;
    first = upper;
    second = lower;
    within = at.within;
    first_before = at.upper_kept;
    second_before = at.bound.within;
    made = made;
    narrow = narrow;
  }

-- what the last row shows
pub shows-last : (n : ℕ) (kept rows : List (List ℤ)) (row : List ℤ) (k : ℕ) (b : Bool) → rows ≡ kept ++ row ∷ [] → k ≡ length kept →
    (IsTrue b ↔ (IsBelow n 0 (row_in rows k) × (pos 0 <ℤ constant (row_in rows k)))) → IsTrue b ↔ (IsBelow n 0 (row_of row) × (pos 0 <ℤ constant (row_of row)))
shows-last n kept rows row k b is at shows = subst (λ (r : Row). IsTrue b ↔ (IsBelow n 0 r × (pos 0 <ℤ constant r))) (ap (λ (xs : List (List ℤ)). row_in xs k) is ∙ more-new kept row k at) shows
