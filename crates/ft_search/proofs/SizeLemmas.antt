-- Counting the points of an area from its first span to its last.
use Rattle.std.proofs.Common.{◌≡◌, ◌∙◌, sym, ap, subst, ℕ, suc, ◌+◌, ◌*◌, ◌^◌, ◌<◌, ◌≤◌, ℤ, ◌≤ℤ◌, List, [], ◌∷◌, length, drop, slice_index_or}
use Rattle.std.proofs.Common.{arith, drop_of_length-le}
use Rattle.std.proofs.lemmas.List.{drop_more}
use Rattle.std.proofs.Math.Nat.{pow-succ'}
use Rattle.ft_search.specs.laws.Budget.{AreNonempty, points_in, values_in}

times-more : (m c v p q t : ℕ) → m ≡ c * v → q ≡ v * p → c * q ≡ t → m * p ≡ t
times-more m c v p q t e d h = ap (λ (n : ℕ). n * p) e ∙ regroup c v p ∙ ap (λ (n : ℕ). c * n) (sym d) ∙ h
  where
    regroup : (c v p : ℕ) → (c * v) * p ≡ c * (v * p)
    regroup c v p = grind arith

next : (spans : List (ℤ × ℤ)) (i : ℕ) (s : ℤ × ℤ) → i < length spans → s ≡ slice_index_or spans i s → drop i spans ≡ s ∷ drop (i + 1) spans
next spans i s within item = drop_more spans i s within ∙ ap (λ (r : ℤ × ℤ). r ∷ drop (i + 1) spans) (sym item)

pub points-next : (spans : List (ℤ × ℤ)) (i : ℕ) (s : ℤ × ℤ) (count more : ℕ) → i < length spans → s ≡ slice_index_or spans i s
    → more ≡ count * values_in s → count * points_in (drop i spans) ≡ points_in spans
    → more * points_in (drop (i + 1) spans) ≡ points_in spans
points-next spans i s count more within item e h =
    times-more more count (values_in s) (points_in (drop (i + 1) spans)) (points_in (drop i spans)) (points_in spans) e
    (ap points_in (next spans i s within item)) h

pub nonempty-next : (spans : List (ℤ × ℤ)) (i : ℕ) (s : ℤ × ℤ) → i < length spans → s ≡ slice_index_or spans i s → s.0 ≤ℤ s.1
    → (AreNonempty (drop i spans) → AreNonempty spans) → AreNonempty (drop (i + 1) spans) → AreNonempty spans
nonempty-next spans i s within item full h more =
    h (subst (λ (ss : List (ℤ × ℤ)). AreNonempty ss) (sym (next spans i s within item)) (full, more))

pub points-end : (spans : List (ℤ × ℤ)) (i count : ℕ) → length spans ≤ i → count * points_in (drop i spans) ≡ points_in spans
    → count ≡ points_in spans
points-end spans i count end h =
    let none : drop i spans ≡ [] = drop_of_length-le spans end in
    let one : count ≡ count * 1 = omega arith in
    one ∙ ap (λ (ss : List (ℤ × ℤ)). count * points_in ss) (sym none) ∙ h

pub nonempty-end : (spans : List (ℤ × ℤ)) (i : ℕ) → length spans ≤ i → (AreNonempty (drop i spans) → AreNonempty spans)
    → AreNonempty spans
nonempty-end spans i end h = h (subst (λ (ss : List (ℤ × ℤ)). AreNonempty ss) (sym (drop_of_length-le spans end)) tt)

pub doubled-more : (choices count i : ℕ) → choices ≡ count * 2 ^ i → choices * 2 ≡ count * 2 ^ (i + 1)
doubled-more choices count i e =
    let next : i + 1 ≡ suc i = omega arith in
    ap (λ (n : ℕ). n * 2) e ∙ regroup count (2 ^ i) ∙ ap (λ (n : ℕ). count * n) (sym (ap (λ (n : ℕ). 2 ^ n) next ∙ pow-succ' 2 i))
  where
    regroup : (c p : ℕ) → (c * p) * 2 ≡ c * (2 * p)
    regroup c p = grind arith
