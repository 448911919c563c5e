-- Points that agree at the unknowns of an area, and parts of one point alone.
use Rattle.std.proofs.Common.{◌≡◌, ◌∙◌, inl, inr, sym, ap, subst, refl, ℕ, zero, suc, negsuc, ◌+◌, ◌<◌, ◌≤◌, ℤ, pos, ◌+ℤ◌, ◌*ℤ◌, ◌≤ℤ◌, List, [], ◌∷◌}
use Rattle.std.proofs.Common.{length, slice_index_or, Option, Some, None, slice_get, arith}
use Rattle.std.specs.Prelude.{All, int_le, slice_set, unsigned_abs}
use Rattle.std.proofs.Common.{to_z, of_z, w64}
use Rattle.std.proofs.lemmas.Int.{ints, to_z-of_z}
use mir.Val.{SFits}
use Rattle.std.proofs.lemmas.List.Elements.{All-head, All-tail}
use Rattle.std.proofs.lemmas.Option.{get_or_from_slice_get, slice_get-get_or, slice_get_read, slice_get_within}
use Rattle.std.proofs.lemmas.Bool.{cases_eq}
use Rattle.std.proofs.lemmas.List.{get_or-set_other, get_or-set_same}
use Rattle.ft_base.specs.Interval.{IsBounded, IsWithin}
use Rattle.ft_linear.specs.meaning.Form.{Factor, HasUnknowns, InArea, IsSmall, LinView, sum_at, values_at}
use Rattle.ft_linear.specs.meaning.Bounds.{value_most}
use Rattle.ft_linear.specs.meaning.Formula.{FormulaView, IsOver, Satisfies, form_truth, truth_at}
use Rattle.ft_linear.specs.meaning.Truth.{truth}

module _ (spans : List (ℤ × ℤ)) (x y : ℕ → ℤ) (same : (u : ℕ) → u < length spans → x u ≡ y u) where
  pub moved-area : InArea spans y → InArea spans x
  moved-area area u s got = subst (λ (z : ℤ). IsWithin s z) (sym (same u (slice_get_within spans u s got))) (area u s got)

  same-sum : (fs : List Factor) → HasUnknowns (length spans) fs → sum_at x fs ≡ sum_at y fs
  same-sum [] h = refl
  same-sum (f ∷ fs) h =
      let here = same f.0 (All-head (λ (g : Factor). g.0 < length spans) f fs h) in
      let rest = same-sum fs (All-tail (λ (g : Factor). g.0 < length spans) f fs h) in
      λ i. (f.1 *ℤ here i) +ℤ rest i

  module _ (f : FormulaView) (over : IsOver (length spans) f) where
    same-form : (a : ℕ) (o : Option LinView) → slice_get f.atoms a ≡ o → form_truth x o ≡ form_truth y o
    same-form a None got = refl
    same-form a (Some l) got =
        let has : HasUnknowns (length spans) l.factors = subst (λ (m : LinView). HasUnknowns (length spans) m.factors)
        (get_or_from_slice_get f.atoms a l l got) (over a l (slice_get_within f.atoms a l got)) in
        ap (λ (z : ℤ). int_le (z +ℤ l.constant) (pos 0)) (same-sum l.factors has)

    same-truth : truth_at f x ≡ truth_at f y
    same-truth = λ i. truth (λ a. same-form a (slice_get f.atoms a) refl i) f.root

    pub moved-point : Satisfies f y → Satisfies f x
    moved-point sat = same-truth ∙ sat

pub only-value : (v z : ℤ) → IsWithin (v, v) z → z ≡ v
only-value v z w = let a = w.0 in let b = w.1 in omega (arith, ints, a, b)

small-between : (a z b : ℤ) (m : ℕ) → a ≤ℤ z → z ≤ℤ b → unsigned_abs a ≤ m → unsigned_abs b ≤ m → unsigned_abs z ≤ m
small-between a (pos z) (pos b) m l h s t = omega (arith, ints, h, t)
small-between a (pos z) (negsuc b) m l h s t = absurd (omega (arith, ints, h))
small-between (pos a) (negsuc z) b m l h s t = absurd (omega (arith, ints, l))
small-between (negsuc a) (negsuc z) b m l h s t = omega (arith, ints, l, s)

-- a value of a point of an area is small
pub small-in : (spans : List (ℤ × ℤ)) (values : List ℤ) (u : ℕ) (s : ℤ × ℤ) (z : ℤ) → InArea spans (values_at values) → u < length spans
    → s ≡ slice_index_or spans u s → IsBounded value_most s.0 s.1 → slice_get values u ≡ Some z → IsSmall z
small-in spans values u s z area within item bounded got =
    let is : values_at values u ≡ z = get_or_from_slice_get values u z (pos 0) got in
    let inside : IsWithin s (values_at values u) = area u s (slice_get_read spans (length spans) u s refl within item) in
    let w : IsWithin s z = subst (λ (y : ℤ). IsWithin s y) is inside in
    small-between s.0 z s.1 value_most w.0 w.1 bounded.1 bounded.2

-- a fact of the values of the first unknowns, and of one more
module _ (Q : ℕ → ℤ → Type 0) (values : List ℤ) (i : ℕ) (z : ℤ) where
  pub values-more : i < length values → ((u : ℕ) → u < i → Q u (values_at values u)) → Q i z → (u : ℕ) → u < i + 1
      → Q u (values_at (slice_set values i z) u)
  values-more within all one u below = elim (cases_eq u i) [
    | inl same ↦ subst (λ (k : ℕ). Q k (values_at (slice_set values i z) k)) (sym same)
        (subst (λ (y : ℤ). Q i y) (sym (get_or-set_same values i z (pos 0) within)) one)
    | inr other ↦ subst (λ (y : ℤ). Q u y) (sym (get_or-set_other values i u z (pos 0) other)) (all u (grind (arith, below, other)))
  ]

pub all-small : (values : List ℤ) (n : ℕ) → length values ≤ n → ((u : ℕ) → u < n → IsSmall (values_at values u)) → All IsSmall values
all-small values n long all i d within =
    let same : slice_index_or values i (pos 0) ≡ slice_index_or values i d =
    cc (sym (slice_get-get_or values i (pos 0) within) ∙ slice_get-get_or values i d within) in
    subst (λ (z : ℤ). IsSmall z) same (all i (omega (arith, long, within)))

-- spans of one value each, and one more
pub spans-more : (at : ℕ → ℤ × ℤ) (spans : List (ℤ × ℤ)) (i : ℕ) → i < length spans → ((u : ℕ) → u < i → slice_get spans u ≡ Some (at u))
    → (u : ℕ) → u < i + 1 → slice_get (slice_set spans i (at i)) u ≡ Some (at u)
spans-more at [] i within all u below = absurd (omega (arith, within))
spans-more at (s ∷ spans) zero within all zero below = refl
spans-more at (s ∷ spans) zero within all (suc u) below = absurd (omega (arith, below))
spans-more at (s ∷ spans) (suc i) within all zero below = all 0 (omega arith)
spans-more at (s ∷ spans) (suc i) within all (suc u) below =
    spans-more (λ w. at (suc w)) spans i (omega (arith, within)) (λ w less. all (suc w) (omega (arith, less))) u (omega (arith, below))

-- a small number is kept by the machine's signed numbers
pub raw-is : (z : ℤ) → IsSmall z → to_z w64 (of_z w64 z) ≡ z
raw-is z small = to_z-of_z w64 z (fits z small)
  where
    fits : (z : ℤ) → IsSmall z → SFits w64 z
    fits (pos n) small = grind (arith, ints, small)
    fits (negsuc n) small = grind (arith, ints, small)

pub raw-small : (z : ℤ) → IsSmall z → IsSmall (to_z w64 (of_z w64 z))
raw-small z small = subst (λ (y : ℤ). IsSmall y) (sym (raw-is z small)) small
