-- Totals of factors: one factor more, one line more, and totals that are made 0.
use Rattle.std.proofs.Common.{◌≡◌, ◌∙◌, inl, inr, sym, ap, refl, ℕ, zero, suc, ◌+◌, ◌*◌, ◌<◌, ◌≤◌, ℤ, pos, ◌+ℤ◌, ◌*ℤ◌, Bool, true, false, ◌&&◌}
use Rattle.std.proofs.Common.{cond, not, set, List, [], ◌∷◌, ◌++◌, length, take, arith, get_or-set_same, get_or-set_other}
use Rattle.std.specs.Prelude.{nat_eq, nat_le, slice_index_or, unsigned_abs}
use Rattle.std.specs.List.{list_all}
use Rattle.std.proofs.Math.Nat.{mul-le-mul_left}
use Rattle.std.proofs.Math.IntN.{*ℤ-zero}
use Rattle.std.proofs.lemmas.Bool.{and_parts, cases_Bool, eqb-true}
use Rattle.std.proofs.lemmas.Int.{ints, unsigned_abs-mul}
use Rattle.std.proofs.lemmas.List.{take_more}
use Rattle.std.proofs.lemmas.List.Folds.{list_all_more}
use Rattle.ft_linear.specs.declared.lines.Line.{Line}
use Rattle.ft_linear.specs.meaning.Bounds.{times_most, value_most}
use Rattle.ft_linear.specs.meaning.Form.{AreRising, Factor, IsSmall, values_at}
use Rattle.ft_linear.specs.meaning.Formula.{FormulaView}
use Rattle.ft_linear.specs.meaning.Part.{PartView}
use Rattle.ft_linear.specs.meaning.Rules.{are_lines, factor_of, factors_in, is_line, line_form, times_of}
use Rattle.ft_linear.specs.summing.Sizes.{line_product_most, line_sum_most}
use Rattle.ft_linear.specs.summing.Totals.{AreAdded, AreClear, AreCleared, AreTotals, AreWithin, are_free, is_free}
use Rattle.ft_linear.proofs.UnknownLemmas.{equal-to-itself, factor_of-append, not-equal}
use Rattle.ft_linear.proofs.RuleLemmas.{free-none, none-below}
use Rattle.ft_linear.proofs.RuleLemmas.{factor-more as line-more}
use Rattle.ft_linear.proofs.Whole.{mul-add}

pub clear-push : (ts : List ℤ) → AreClear ts → AreClear (ts ++ pos 0 ∷ [])
clear-push [] h zero = refl
clear-push [] h (suc u) = refl
clear-push (t ∷ ts) h zero = h 0
clear-push (t ∷ ts) h (suc u) = clear-push ts (λ v. h (suc v)) u

value-set : (ts : List ℤ) (k u : ℕ) (y : ℤ) → k < length ts → values_at (set ts k y) u ≡ cond (nat_eq k u) y (values_at ts u)
value-set ts k u y below = elim (cases_Bool (nat_eq k u)) [
  | inl same ↦
      ap (values_at (set ts k y)) (sym (eqb-true k u same)) ∙ get_or-set_same ts k y (pos 0) below
      ∙ sym (ap (λ (b : Bool). cond b y (values_at ts u)) same)
  | inr other ↦
      get_or-set_other ts k u y (pos 0) (λ e. apart e other) ∙ sym (ap (λ (b : Bool). cond b y (values_at ts u)) other)
]
  where
    apart : u ≡ k → nat_eq k u ≡ false → ⊥
    apart e other = cc (sym other ∙ ap (nat_eq k) e ∙ equal-to-itself k)

pub at-least : (from : ℕ) (fs : List Factor) (i : ℕ) (d : Factor) → AreRising from fs → i < length fs → from ≤ (slice_index_or fs i d).0
at-least from [] i d h within = absurd (omega (arith, within))
at-least from (f ∷ fs) zero d h within = h.0
at-least from (f ∷ fs) (suc i) d h within = let r = at-least (f.0 + 1) fs i d h.3 (omega (arith, within)) in omega (arith, r, h.0)

-- the factors before one are of other unknowns
pub none-yet : (from : ℕ) (fs : List Factor) (i : ℕ) (d : Factor) → AreRising from fs → i < length fs
    → factor_of (slice_index_or fs i d).0 (take i fs) ≡ pos 0
none-yet from [] i d h within = absurd (omega (arith, within))
none-yet from (f ∷ fs) zero d h within = refl
none-yet from (f ∷ fs) (suc i) d h within =
    let u : ℕ = (slice_index_or fs i d).0 in
    let above = at-least (f.0 + 1) fs i d h.3 (omega (arith, within)) in
    let r = none-yet (f.0 + 1) fs i d h.3 (omega (arith, within)) in
    let other = not-equal f.0 u (λ same. omega (arith, same, above)) in
    ap (λ (b : Bool). cond b f.1 (pos 0) +ℤ factor_of u (take i fs)) other ∙ ap (λ (z : ℤ). pos 0 +ℤ z) r

-- the factors of an unknown add up to one that is small
pub small-factor : (from u : ℕ) (fs : List Factor) → AreRising from fs → IsSmall (factor_of u fs)
small-factor from u [] h = omega arith
small-factor from u (f ∷ fs) h = elim (cases_Bool (nat_eq f.0 u)) [
  | inl same ↦
      let is = eqb-true f.0 u same in
      let none = none-below (f.0 + 1) u fs h.3 (omega (arith, is)) in
      let e : f.1 +ℤ factor_of u fs ≡ f.1 = omega (arith, ints, none) in
      rw same (rw e h.2)
  | inr other ↦
      let r = small-factor (f.0 + 1) u fs h.3 in
      let e : pos 0 +ℤ factor_of u fs ≡ factor_of u fs = omega (arith, ints) in
      rw other (rw e r)
]

pub small-term : (z g : ℤ) → unsigned_abs z ≤ times_most → IsSmall g → unsigned_abs (z *ℤ g) ≤ line_product_most
small-term z g few small =
    let is = unsigned_abs-mul z g in
    let first : unsigned_abs z * unsigned_abs g ≤ unsigned_abs z * value_most = mul-le-mul_left (unsigned_abs z) small in
    omega (arith, is, first, few)

small-sum : (m n : ℕ) (a b : ℤ) → unsigned_abs a ≤ m → unsigned_abs b ≤ n → unsigned_abs (a +ℤ b) ≤ m + n
small-sum m n a b ha hb = grind (arith, ints)

-- totals with small factors added, each so many times
pub within-added : (count : ℕ) (old new : List ℤ) (z : ℤ) (fs : List Factor) → AreWithin (line_product_most * count) old
    → unsigned_abs z ≤ times_most → ((u : ℕ) → IsSmall (factor_of u fs)) → AreAdded old z fs new
    → AreWithin (line_product_most * (count + 1)) new
within-added count old new z fs within few small added u =
    let s = small-sum (line_product_most * count) line_product_most (values_at old u) (z *ℤ factor_of u fs) (within u)
    (small-term z (factor_of u fs) few (small u)) in
    let e = added u in
    rw e (omega (arith, s))

-- one factor more
module _ (fs : List Factor) (i : ℕ) (d : Factor) (within : i < length fs) where
  abbrev g : Factor
  g = slice_index_or fs i d

  factor-more : (u : ℕ) → factor_of u (take (i + 1) fs) ≡ factor_of u (take i fs) +ℤ cond (nat_eq g.0 u) g.1 (pos 0)
  factor-more u =
      let a = factor_of-append u (take i fs) (g ∷ []) in
      ap (factor_of u) (take_more fs i d within) ∙ a ∙ ap (λ (z : ℤ). factor_of u (take i fs) +ℤ z) (nothing-more (cond (nat_eq g.0 u) g.1 (pos 0)))
    where
      nothing-more : (z : ℤ) → z +ℤ pos 0 ≡ z
      nothing-more z = omega (arith, ints)

  pub added-more : (old ts : List ℤ) (z : ℤ) → AreAdded old z (take i fs) ts → g.0 < length ts
      → AreAdded old z (take (i + 1) fs) (set ts g.0 (values_at ts g.0 +ℤ (z *ℤ g.1)))
  added-more old ts z added there u =
      let e = added u in
      let d = mul-add z (factor_of u (take i fs)) (cond (nat_eq g.0 u) g.1 (pos 0)) in
      let m = ap (λ (y : ℤ). z *ℤ y) (factor-more u) in
      value-set ts g.0 u (values_at ts g.0 +ℤ (z *ℤ g.1)) there ∙ elim (cases_Bool (nat_eq g.0 u)) [
        | inl same ↦
            let at = ap (values_at ts) (eqb-true g.0 u same) in
            let one = ap (λ (b : Bool). z *ℤ cond b g.1 (pos 0)) same in
            rw same (omega (arith, ints, e, d, m, at, one))
        | inr other ↦
            let none = ap (λ (b : Bool). z *ℤ cond b g.1 (pos 0)) other ∙ *ℤ-zero z in
            rw other (omega (arith, ints, e, d, m, none))
      ]

  pub cleared-more : (old ts : List ℤ) → AreCleared old (λ u. is_free u (take i fs)) ts → g.0 < length ts
      → AreCleared old (λ u. is_free u (take (i + 1) fs)) (set ts g.0 (pos 0))
  cleared-more old ts cleared there u =
      value-set ts g.0 u (pos 0) there ∙ by-test (nat_eq g.0 u)
      ∙ sym (ap (λ (b : Bool). cond b (values_at old u) (pos 0)) (list_all_more (λ (h : Factor). not (nat_eq h.0 u)) fs i d within))
    where
      by-free : (b : Bool) → cond b (values_at old u) (pos 0) ≡ cond (b && true) (values_at old u) (pos 0)
      by-free true = refl
      by-free false = refl

      by-none : (b : Bool) → pos 0 ≡ cond (b && false) (values_at old u) (pos 0)
      by-none true = refl
      by-none false = refl

      by-test : (same : Bool) → cond same (pos 0) (values_at ts u) ≡ cond (is_free u (take i fs) && not same) (values_at old u) (pos 0)
      by-test true = by-none (is_free u (take i fs))
      by-test false = cleared u ∙ by-free (is_free u (take i fs))

-- a factor whose unknown has none yet is added to the total that was there before
pub none-added : (fs : List Factor) (i : ℕ) (d : Factor) → i < length fs → (old ts : List ℤ) (z : ℤ) (count : ℕ) → AreRising 0 fs
    → AreWithin (line_product_most * count) old → AreAdded old z (take i fs) ts
    → unsigned_abs (values_at ts (slice_index_or fs i d).0) ≤ line_product_most * count
none-added fs i d within old ts z count rising small added =
    let u : ℕ = (slice_index_or fs i d).0 in
    let none = ap (λ (y : ℤ). z *ℤ y) (none-yet 0 fs i d rising within) ∙ *ℤ-zero z in
    let e : values_at ts u ≡ values_at old u = added u ∙ omega (arith, ints, none) in
    rw e (small u)

-- one factor alone
pub one-added : (ts : List ℤ) (k : ℕ) (z g : ℤ) → k < length ts
    → AreAdded ts z ((k, g) ∷ []) (set ts k (values_at ts k +ℤ (z *ℤ g)))
one-added ts k z g there = added-more ((k, g) ∷ []) 0 (0, pos 0) (omega arith) ts ts z none there
  where
    none : AreAdded ts z [] ts
    none u = let e = *ℤ-zero z in omega (arith, ints, e)

pub small-one : (u k : ℕ) (g : ℤ) → unsigned_abs g ≤ 1 → IsSmall (factor_of u ((k, g) ∷ []))
small-one u k g unit = by-test (nat_eq k u)
  where
    whole : (z : ℤ) → z +ℤ pos 0 ≡ z
    whole z = omega (arith, ints)

    by-test : (b : Bool) → IsSmall (cond b g (pos 0) +ℤ pos 0)
    by-test true = let e = whole g in rw e (omega (arith, unit))
    by-test false = omega arith

pub one-cleared : (ts : List ℤ) (k : ℕ) (g : ℤ) → k < length ts → AreCleared ts (λ u. is_free u ((k, g) ∷ [])) (set ts k (pos 0))
one-cleared ts k g there = cleared-more ((k, g) ∷ []) 0 (0, pos 0) (omega arith) ts ts (λ u. refl) there

-- one line more
module _ (f : FormulaView) (p : PartView) (ls : List Line) where
  module _ (i : ℕ) (d : Line) (within : i < length ls) where
    abbrev l : Line
    l = slice_index_or ls i d

    pub lines-added : (old new : List ℤ) → AreTotals f p (take i ls) old
        → AreAdded old (pos (times_of l)) (factors_in (line_form f p l)) new → AreTotals f p (take (i + 1) ls) new
    lines-added old new are added u =
        added u ∙ ap (λ (z : ℤ). z +ℤ (pos (times_of l) *ℤ factor_of u (factors_in (line_form f p l)))) (are u)
        ∙ sym (line-more f p ls i d within u)

    pub lines-cleared : (old ts new : List ℤ) → AreCleared old (λ u. are_free f p u (take i ls)) ts
        → AreCleared ts (λ u. is_free u (factors_in (line_form f p l))) new → AreCleared old (λ u. are_free f p u (take (i + 1) ls)) new
    lines-cleared old ts new before cleared u =
        cleared u ∙ ap (λ (z : ℤ). cond (is_free u (factors_in (line_form f p l))) z (pos 0)) (before u)
        ∙ both (are_free f p u (take i ls)) (is_free u (factors_in (line_form f p l))) (values_at old u)
        ∙ sym (ap (λ (b : Bool). cond b (values_at old u) (pos 0)) (list_all_more (λ m. is_free u (factors_in (line_form f p m))) ls i d within))
      where
        both : (b c : Bool) (z : ℤ) → cond c (cond b z (pos 0)) (pos 0) ≡ cond (b && c) z (pos 0)
        both true true z = refl
        both true false z = refl
        both false true z = refl
        both false false z = refl

  pub all-cleared : (old new : List ℤ) → AreTotals f p ls old → AreCleared old (λ u. are_free f p u ls) new → AreClear new
  all-cleared old new are cleared u = elim (cases_Bool (are_free f p u ls)) [
    | inl free ↦ cleared u ∙ ap (λ (b : Bool). cond b (values_at old u) (pos 0)) free ∙ are u ∙ free-none f p u ls free
    | inr touched ↦ cleared u ∙ ap (λ (b : Bool). cond b (values_at old u) (pos 0)) touched
  ]

  pub within-all : (i : ℕ) (ts : List ℤ) → are_lines f p ls ≡ true → i ≤ length ls → AreWithin (line_product_most * i) ts
      → AreWithin line_sum_most ts
  within-all i ts are few within u =
      let (count, each) = and_parts (nat_le 1 (length ls) && nat_le (length ls) 4300) (list_all (is_line f p) ls) are in
      let (some, most) = and_parts (nat_le 1 (length ls)) (nat_le (length ls) 4300) count in
      let less : i ≤ 4300 = grind (arith, most, few) in
      let m : line_product_most * i ≤ line_product_most * 4300 = mul-le-mul_left line_product_most less in
      let w = within u in
      omega (arith, w, m)
