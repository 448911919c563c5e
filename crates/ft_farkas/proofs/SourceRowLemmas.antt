-- The rows of lines and bounds, column by column.
use Rattle.std.proofs.Common.{◌≡◌, ◌≢◌, ◌∙◌, inl, inr, sym, ap, subst, refl, ℕ, zero, suc, ◌+◌, ◌-◌, ◌/◌, ◌%◌, ◌<◌, ◌≤◌, ℤ, pos, neg_ℤ, ◌+ℤ◌, ◌-ℤ◌, List, [], ◌∷◌, ◌++◌, length, take, map, set, Bool, true, false, cond, arith}
use Rattle.std.specs.Prelude.{nat_eq, Some, slice_get, slice_index_or}
use Rattle.std.specs.Int.{w64}
use Rattle.std.proofs.lemmas.Bool.{cases_Bool, eqb-true}
use Rattle.std.proofs.lemmas.Int.{ints, to_z-of_z, fits_signed_from_abs}
use Rattle.ft_linear.specs.declared.lines.Line.{Line}
use Rattle.ft_linear.specs.declared.lines.Line.TheVariants.{Upper, Lower}
use Rattle.ft_linear.specs.meaning.Form.{Factor, LinView, IsSmall, AreRising}
use Rattle.ft_linear.specs.meaning.Rules.{literal_form, factor_of}
use Rattle.ft_farkas.specs.meaning.Rows.{Row, row_of, bounds}
use Rattle.ft_farkas.specs.building.Forms.{entry_of, turned_by}
use mir.Val.{to_z, of_z}

-- the bounds, by number
pub bounds-length : (n : ℕ) → length (bounds n) ≡ n + n
bounds-length zero = refl
bounds-length (suc n) = let rest = bounds-length n in let more = append-two (bounds n) (Upper n 1) (Lower n 1) in omega (arith, rest, more)
  where
    append-two : (xs : List Line) (a b : Line) → length (xs ++ a ∷ b ∷ []) ≡ length xs + 2
    append-two [] a b = refl
    append-two (x ∷ xs) a b = let rest = append-two xs a b in omega (arith, rest)

left-get : (xs ys : List Line) (k : ℕ) (l : Line) → k < length xs → slice_get xs k ≡ Some l → slice_get (xs ++ ys) k ≡ Some l
left-get [] ys k l below is = absurd (omega (arith, below))
left-get (x ∷ xs) ys zero l below is = is
left-get (x ∷ xs) ys (suc k) l below is = left-get xs ys k l (omega (arith, below)) is

pub right-get : (xs ys : List Line) (k n : ℕ) → n ≡ length xs + k → slice_get (xs ++ ys) n ≡ slice_get ys k
right-get [] ys k n e = let same : n ≡ k = omega (arith, e) in ap (slice_get ys) same
right-get (x ∷ xs) ys k zero e = absurd (omega (arith, e))
right-get (x ∷ xs) ys k (suc n) e = right-get xs ys k n (omega (arith, e))

pub bounds-get : (n u : ℕ) → u < n → (slice_get (bounds n) (u + u) ≡ Some (Upper u 1)) × (slice_get (bounds n) (suc (u + u)) ≡ Some (Lower u 1))
bounds-get zero u below = absurd (omega (arith, below))
bounds-get (suc n) u below = elim (cases_Bool (nat_eq u n)) [
  | inl so ↦ let e = eqb-true u n so in let long = bounds-length n in (
    right-get (bounds n) (Upper n 1 ∷ Lower n 1 ∷ []) 0 (u + u) (omega (arith, e, long)) ∙ ap (λ (k : ℕ). Some (Upper k 1)) (sym e),
    right-get (bounds n) (Upper n 1 ∷ Lower n 1 ∷ []) 1 (suc (u + u)) (omega (arith, e, long)) ∙ ap (λ (k : ℕ). Some (Lower k 1)) (sym e),
  )
  | inr isnt ↦ let low = less u n isnt below in let rest = bounds-get n u low in let long = bounds-length n in (
    left-get (bounds n) (Upper n 1 ∷ Lower n 1 ∷ []) (u + u) (Upper u 1) (omega (arith, low, long)) rest.0,
    left-get (bounds n) (Upper n 1 ∷ Lower n 1 ∷ []) (suc (u + u)) (Lower u 1) (omega (arith, low, long)) rest.1,
  )
]
  where
    less : (u n : ℕ) → nat_eq u n ≡ false → u < suc n → u < n
    less u n e h = grind (arith, e, h)

pub upper-at : (n b : ℕ) → b % 2 ≡ 0 → b < n + n → slice_get (bounds n) b ≡ Some (Upper (b / 2) 1)
upper-at n b even below = subst (λ (k : ℕ). slice_get (bounds n) k ≡ Some (Upper (b / 2) 1)) (twice b even) (bounds-get n (b / 2) (half b n even below)).0
  where
    twice : (b : ℕ) → b % 2 ≡ 0 → b / 2 + b / 2 ≡ b
    twice b e = omega (arith, e)

    half : (b n : ℕ) → b % 2 ≡ 0 → b < n + n → b / 2 < n
    half b n e h = omega (arith, e, h)

pub lower-at : (n b : ℕ) → (b % 2 ≡ 0 → ⊥) → b < n + n → slice_get (bounds n) b ≡ Some (Lower (b / 2) 1)
lower-at n b odd below = subst (λ (k : ℕ). slice_get (bounds n) k ≡ Some (Lower (b / 2) 1)) (twice b odd) (bounds-get n (b / 2) (half b n below)).1
  where
    twice : (b : ℕ) → (b % 2 ≡ 0 → ⊥) → suc (b / 2 + b / 2) ≡ b
    twice b e = grind (arith, e)

    half : (b n : ℕ) → b < n + n → b / 2 < n
    half b n h = omega (arith, h)

pub first-get : (lines : List Line) (n at : ℕ) (l : Line) → at < length lines → slice_get lines at ≡ Some l → slice_get (lines ++ bounds n) at ≡ Some l
first-get lines n at l = left-get lines (bounds n) at l

pub later-get : (lines : List Line) (n at : ℕ) (l : Line) → length lines ≤ at → slice_get (bounds n) (at - length lines) ≡ Some l → slice_get (lines ++ bounds n) at ≡ Some l
later-get lines n at l past is = right-get lines (bounds n) (at - length lines) at (omega (arith, past)) ∙ is

pub small-same : (z : ℤ) → IsSmall z → to_z w64 (of_z w64 z) ≡ z
small-same z h = to_z-of_z w64 z (fits_signed_from_abs w64 z (omega (arith, h)))

-- one factor more of a form whose unknowns rise
rising-from : (from : ℕ) (fs : List Factor) (k : ℕ) (d : Factor) → AreRising from fs → k < length fs → from ≤ (slice_index_or fs k d).0
rising-from from [] k d h below = absurd (omega (arith, below))
rising-from from (f ∷ fs) zero d h below = h.0
rising-from from (f ∷ fs) (suc k) d h below = let rest = rising-from (f.0 + 1) fs k d h.3 (omega (arith, below)) in let low = h.0 in omega (arith, rest, low)

module _ (u : ℕ) where
  pub factor-more : (from : ℕ) (fs : List Factor) (k : ℕ) (d : Factor) → AreRising from fs → k < length fs →
      factor_of u (take (suc k) fs) ≡ cond (nat_eq (slice_index_or fs k d).0 u) (slice_index_or fs k d).1 (factor_of u (take k fs))
  factor-more from [] k d h below = absurd (omega (arith, below))
  factor-more from (f ∷ fs) zero d h below = elim (cases_Bool (nat_eq f.0 u)) [
    | inl so ↦ rw so (omega (arith, ints))
    | inr isnt ↦ rw isnt refl
  ]
  factor-more from (f ∷ fs) (suc k) d h below =
      let rest = factor-more (f.0 + 1) fs k d h.3 (omega (arith, below)) in
      let low = rising-from (f.0 + 1) fs k d h.3 (omega (arith, below)) in
      let g : ℕ = (slice_index_or fs k d).0 in
      by (nat_eq f.0 u) (nat_eq g u) refl refl rest low
    where
      z : ℤ
      z = (slice_index_or fs k d).1

      by : (a b : Bool) → nat_eq f.0 u ≡ a → nat_eq (slice_index_or fs k d).0 u ≡ b →
          factor_of u (take (suc k) fs) ≡ cond (nat_eq (slice_index_or fs k d).0 u) (slice_index_or fs k d).1 (factor_of u (take k fs)) → f.0 + 1 ≤ (slice_index_or fs k d).0 →
          (cond (nat_eq f.0 u) f.1 (pos 0) +ℤ factor_of u (take (suc k) fs)) ≡ cond (nat_eq (slice_index_or fs k d).0 u) (slice_index_or fs k d).1 (cond (nat_eq f.0 u) f.1 (pos 0) +ℤ factor_of u (take k fs))
      by true true a b rest low = absurd (let p = eqb-true f.0 u a in let q = eqb-true (slice_index_or fs k d).0 u b in omega (arith, p, q, low))
      by false true a b rest low = rw a (rw b (let r = rw b at rest in omega (arith, ints, r)))
      by c false a b rest low = rw b (let r = rw b at rest in ap (λ (y : ℤ). cond (nat_eq f.0 u) f.1 (pos 0) +ℤ y) r)

turned-none : (value : Bool) → turned_by value (pos 0) ≡ pos 0
turned-none true = refl
turned-none false = refl

-- a row with one factor more
pub written-more : (value : Bool) (fs : List Factor) (k : ℕ) (d : Factor) (old new : Row) → AreRising 0 fs → k < length fs →
    ((u : ℕ) → old (suc u) ≡ turned_by value (factor_of u (take k fs))) →
    new ((slice_index_or fs k d).0 + 1) ≡ turned_by value (slice_index_or fs k d).1 → ((c : ℕ) → c ≢ (slice_index_or fs k d).0 + 1 → new c ≡ old c) →
    (u : ℕ) → new (suc u) ≡ turned_by value (factor_of u (take (k + 1) fs))
written-more value fs k d old new rising below before own others u = by (nat_eq g u) refl ∙ ap (λ (j : ℕ). turned_by value (factor_of u (take j fs))) next
  where
    g : ℕ
    g = (slice_index_or fs k d).0

    next : suc k ≡ k + 1
    next = omega arith

    more : factor_of u (take (suc k) fs) ≡ cond (nat_eq g u) (slice_index_or fs k d).1 (factor_of u (take k fs))
    more = factor-more u 0 fs k d rising below

    column : (g u : ℕ) → nat_eq g u ≡ true → suc u ≡ g + 1
    column g u e = grind (arith, e)

    other : (g u : ℕ) → nat_eq g u ≡ false → suc u ≢ g + 1
    other g u e so = grind (arith, e, so)

    by : (b : Bool) → nat_eq g u ≡ b → new (suc u) ≡ turned_by value (factor_of u (take (suc k) fs))
    by true e = ap new (column g u e) ∙ own ∙ sym (ap (turned_by value) (more ∙ ap (λ (b : Bool). cond b (slice_index_or fs k d).1 (factor_of u (take k fs))) e))
    by false e = others (suc u) (other g u e) ∙ before u ∙ sym (ap (turned_by value) (more ∙ ap (λ (b : Bool). cond b (slice_index_or fs k d).1 (factor_of u (take k fs))) e))

-- the numbers of a literal's form
turned-factor : (u : ℕ) (fs : List Factor) → factor_of u (map (λ f. (f.0, neg_ℤ f.1)) fs) ≡ neg_ℤ (factor_of u fs)
turned-factor u [] = refl
turned-factor u (f ∷ fs) = let rest = turned-factor u fs in elim (cases_Bool (nat_eq f.0 u)) [
  | inl so ↦ rw so (omega (arith, ints, rest))
  | inr isnt ↦ rw isnt (omega (arith, ints, rest))
]

pub literal-factor : (value : Bool) (u : ℕ) (l : LinView) → turned_by value (factor_of u l.factors) ≡ factor_of u (literal_form value l).factors
literal-factor true u l = refl
literal-factor false u l = sym (turned-factor u l.factors)

pub literal-entries : (value : Bool) (l : LinView) (row : List ℤ) (constant : ℤ) → 0 < length row → constant ≡ cond value l.constant (pos 1 -ℤ l.constant) →
    ((u : ℕ) → row_of row (suc u) ≡ turned_by value (factor_of u l.factors)) → (c : ℕ) → row_of (set row 0 constant) c ≡ entry_of (literal_form value l) c
literal-entries value l [] constant some is factors c = absurd (omega (arith, some))
literal-entries true l (x ∷ row) constant some is factors zero = is
literal-entries false l (x ∷ row) constant some is factors zero = is
literal-entries value l (x ∷ row) constant some is factors (suc u) = factors u ∙ literal-factor value u l
