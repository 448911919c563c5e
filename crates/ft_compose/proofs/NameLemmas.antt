-- Numbers that have the values of a point are those of the point at each name that the formula has.
use Rattle.std.proofs.Common.{◌≡◌, ◌∙◌, sym, ap, subst, refl, ℕ, zero, suc, ◌+◌, ◌<◌, ◌≤◌, ℤ, Bool, true, false, not, List, [], ◌∷◌}
use Rattle.std.proofs.Common.{filter, length, Some, slice_get, arith, ⊎_elim}
use Rattle.std.specs.Prelude.{◌==◌}
use Rattle.std.specs.List.{range_with_len}
use Rattle.std.proofs.lemmas.Bool.{cases_Bool, cond-true, cond-false, eq-eqb}
use Rattle.std.proofs.lemmas.Option.{none-some, same_Some, slice_get_within}
use Rattle.ft_linear.specs.meaning.Form.{values_at}
use Rattle.ft_claims.specs.declared.claim.Claim.{Claim}
use Rattle.ft_claims.specs.laws.FormulaLaws.{Gives}
use Rattle.ft_claims.specs.meaning.Areas.{Spans, is_used, used, place_in, finished}
use Rattle.ft_claims.specs.meaning.Formulas.{entries_of}
use Rattle.ft_oblige.specs.laws.Tests.{of_filter}
use Rattle.ft_compose.specs.meaning.Decided.{HasNumbers}

pub range-at : (from n i : ℕ) → i < n → slice_get (range_with_len from n) i ≡ Some (from + i)
range-at from zero i l = absurd (omega (arith, l))
range-at from (suc n) zero l = let e : from ≡ from + zero = omega arith in ap Some e
range-at from (suc n) (suc i) l =
    let e : (from + 1) + i ≡ from + suc i = omega arith in range-at (from + 1) n i (omega (arith, l)) ∙ ap Some e

range-low : (from n i u : ℕ) → slice_get (range_with_len from n) i ≡ Some u → from ≤ u
range-low from zero i u at = absurd (none-some u at)
range-low from (suc n) zero u at = let same = same_Some from u at in omega (arith, same)
range-low from (suc n) (suc i) u at = let more = range-low (from + 1) n i u at in omega (arith, more)

range-high : (from n i u : ℕ) → slice_get (range_with_len from n) i ≡ Some u → u < from + n
range-high from zero i u at = absurd (none-some u at)
range-high from (suc n) zero u at = let same = same_Some from u at in omega (arith, same)
range-high from (suc n) (suc i) u at = let more = range-high (from + 1) n i u at in omega (arith, more)

-- where an element of a filtered list stands in the whole one
pub of-filtered : {A : Type 0} (p : A → Bool) (xs : List A) (k : ℕ) (a : A) → slice_get (filter p xs) k ≡ Some a → (i : ℕ)
    × (slice_get xs i ≡ Some a)
of-filtered p [] k a e = absurd (none-some a e)
of-filtered {A = A} p (x ∷ xs) k a e = ⊎_elim
    (λ in_it. kept (of-filtered p xs) k (sym (ap (λ ys. slice_get ys k) (cond-true (p x) (x ∷ filter p xs) (filter p xs) in_it)) ∙ e))
    (λ out_of_it. let more = of-filtered p xs k a (sym (ap (λ ys. slice_get ys k)
    (cond-false (p x) (x ∷ filter p xs) (filter p xs) out_of_it)) ∙ e) in (suc more.0, more.1))
    (cases_Bool (p x))
  where
    kept : ((k : ℕ) (a : A) → slice_get (filter p xs) k ≡ Some a → (i : ℕ) × (slice_get xs i ≡ Some a)) → (k : ℕ)
        → slice_get (x ∷ filter p xs) k ≡ Some a
        → (i : ℕ) × (slice_get (x ∷ xs) i ≡ Some a)
    kept rest zero e = (zero, e)
    kept rest (suc k) e = let more = rest k a e in (suc more.0, more.1)

-- and where an element that passes stands in the filtered one
pub in-filtered : {A : Type 0} (p : A → Bool) (xs : List A) (k : ℕ) (a : A) → slice_get xs k ≡ Some a → p a ≡ true → (i : ℕ)
    × (slice_get (filter p xs) i ≡ Some a)
in-filtered p [] k a e is = absurd (none-some a e)
in-filtered p (x ∷ xs) zero a e is =
    (zero, ap (λ ys. slice_get ys zero) (cond-true (p x) (x ∷ filter p xs) (filter p xs) (ap p (same_Some x a e) ∙ is)) ∙ e)
in-filtered p (x ∷ xs) (suc k) a e is =
    let more = in-filtered p xs k a e is in ⊎_elim
    (λ in_it. (suc more.0, ap (λ ys. slice_get ys (suc more.0)) (cond-true (p x) (x ∷ filter p xs) (filter p xs) in_it) ∙ more.1))
    (λ out_of_it. (more.0, ap (λ ys. slice_get ys more.0) (cond-false (p x) (x ∷ filter p xs) (filter p xs) out_of_it) ∙ more.1))
    (cases_Bool (p x))

other : (a b : ℕ) → a + 1 ≤ b → (a == b) ≡ false
other a b l = grind (arith, l)

-- the place of a number in a list that begins with this one
next-place : (from u : ℕ) (us rest : List ℕ) (i : ℕ) → ((j : ℕ) → slice_get us j ≡ Some u → (from + 1 ≤ u) × (place_in rest u ≡ j))
    → slice_get (from ∷ us) i ≡ Some u → place_in (from ∷ rest) u ≡ i
next-place from u us rest zero more at = cond-false {A = ℕ} (not (from == u)) (1 + place_in rest u) 0
    (ap not (eq-eqb from u (same_Some from u at)))
next-place from u us rest (suc i) more at = cond-true {A = ℕ} (not (from == u)) (1 + place_in rest u) 0
    (ap not (other from u (more i at).0)) ∙ ap (λ n. 1 + n) (more i at).1 ∙ omega arith

-- the place of a number in a filtered range is that in one that goes further
filtered-place : (p : ℕ → Bool) (from n further i u : ℕ) → slice_get (filter p (range_with_len from n)) i ≡ Some u
    → place_in (filter p (range_with_len from (n + further))) u ≡ i
filtered-place p from zero further i u at = absurd (none-some u at)
filtered-place p from (suc n) further i u at =
    let longer : suc n + further ≡ suc (n + further) = omega arith in
    let us = filter p (range_with_len (from + 1) n) in
    let rest = filter p (range_with_len (from + 1) (n + further)) in
    ap (λ k. place_in (filter p (range_with_len from k)) u) longer
    ∙ ⊎_elim
    (λ in_it. ap (λ vs. place_in vs u) (cond-true (p from) (from ∷ rest) rest in_it)
    ∙ next-place from u us rest i (λ j e. (low j e, filtered-place p (from + 1) n further j u e))
    (sym (ap (λ vs. slice_get vs i) (cond-true (p from) (from ∷ us) us in_it)) ∙ at))
    (λ out_of_it. ap (λ vs. place_in vs u) (cond-false (p from) (from ∷ rest) rest out_of_it)
    ∙ filtered-place p (from + 1) n further i u (sym (ap (λ vs. slice_get vs i) (cond-false (p from) (from ∷ us) us out_of_it)) ∙ at))
    (cases_Bool (p from))
  where
    low : (j : ℕ) → slice_get (filter p (range_with_len (from + 1) n)) j ≡ Some u → from + 1 ≤ u
    low j e = let place = of-filtered p (range_with_len (from + 1) n) j u e in range-low (from + 1) n place.0 u place.1

module _ (spans : Spans) (parts : List Claim) where
  abbrev base : ℕ
  base = length spans

  abbrev names : List ℕ
  names = filter (is_used base parts) (range_with_len 0 base)

  same-place : (i u : ℕ) → slice_get names i ≡ Some u → place_in (used base parts) u ≡ i
  same-place i u at = filtered-place (is_used base parts) 0 base (length (entries_of base parts)) i u at

  -- a name that is used stands among the names
  name-at : (u : ℕ) → u < base → is_used base parts u ≡ true → (i : ℕ) × (slice_get names i ≡ Some u)
  name-at u low is = in-filtered (is_used base parts) (range_with_len 0 base) u u
      (let e : 0 + u ≡ u = omega arith in range-at 0 base u low ∙ ap Some e) is

  module _ (p values : List ℤ) (same : (i : ℕ) → i < length names → values_at values i ≡ values_at p i) (σ : ℕ → ℤ) where
    pub gives : HasNumbers (finished spans parts) values σ → Gives spans parts p σ
    gives has u low is =
        let at = name-at u low is in
        ap (values_at p) (same-place at.0 u at.1) ∙ sym (same at.0 (slice_get_within names at.0 u at.1)) ∙ sym (has at.0 u at.1)

    pub numbers : Gives spans parts p σ → HasNumbers (finished spans parts) values σ
    numbers has i u at =
        let place = of-filtered (is_used base parts) (range_with_len 0 base) i u at in
        let high = range-high 0 base place.0 u place.1 in
        sym (has u (omega (arith, high)) (of_filter (is_used base parts) (range_with_len 0 base) i u at))
        ∙ ap (values_at p) (same-place i u at) ∙ sym (same i (slice_get_within names i u at))
