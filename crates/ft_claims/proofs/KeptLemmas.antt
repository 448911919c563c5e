-- The values of a point that stand for names come first, in the order of the names.
use Rattle.std.proofs.Common.{◌≡◌, ◌∙◌, sym, ap, subst, ℕ, zero, suc, ◌+◌, ◌<◌, ◌≤◌, ℤ, Bool, true, false, not, List, ◌∷◌}
use Rattle.std.proofs.Common.{filter, length, Some, slice_get, arith, ⊎_elim}
use Rattle.std.specs.Prelude.{◌==◌}
use Rattle.std.specs.List.{range_with_len}
use Rattle.std.proofs.lemmas.Bool.{cases_Bool, cond-true, cond-false, eqb-true}
use Rattle.std.proofs.lemmas.Option.{none-some, same_Some}
use Rattle.ft_core.specs.declared.tables.Tables.{Tables}
use Rattle.ft_core.specs.declared.tables.Grid.{Grid}
use Rattle.ft_linear.specs.meaning.Form.{values_at}
use Rattle.ft_mean.specs.meaning.Value.{View}
use Rattle.ft_claims.specs.declared.claim.Claim.{Claim}
use Rattle.ft_claims.specs.laws.CellLaws.{HasKept, KeptIsValues, NamesAreOnce}
use Rattle.ft_claims.specs.laws.PointLaws.{cover_obliged, HasValues}
use Rattle.ft_claims.specs.meaning.Areas.{is_used, used, place_in}
use Rattle.ft_claims.specs.meaning.Coverage.{Fault, cover_parts}
use Rattle.ft_claims.specs.meaning.Formulas.{entries_of}
use Rattle.ft_claims.specs.meaning.Spans.{cover_spans}
use Rattle.ft_claims.proofs.CoverSpans.{cover_long}
use Rattle.ft_claims.proofs.GatherLemmas.{place-found}
use Rattle.ft_claims.proofs.Lists.{of_filter, of-filtered}
use Rattle.ft_claims.proofs.ObligedLemmas.{in-filter, is-itself}

range-low : (from n i u : ℕ) → slice_get (range_with_len from n) i ≡ Some u → from ≤ u
range-low from zero i u at = absurd (none-some u at)
range-low from (suc n) zero u at = let same = same_Some from u at in omega (arith, same)
range-low from (suc n) (suc i) u at = let more = range-low (from + 1) n i u at in omega (arith, more)

other : (a b : ℕ) → a + 1 ≤ b → (a == b) ≡ false
other a b l = grind (arith, l)

-- the place of a number in a list that begins with this one
next-place : (from u : ℕ) (us rest : List ℕ) (i : ℕ) → ((j : ℕ) → slice_get us j ≡ Some u → (from + 1 ≤ u) × (place_in rest u ≡ j))
    → slice_get (from ∷ us) i ≡ Some u → place_in (from ∷ rest) u ≡ i
next-place from u us rest zero more at = cond-false {A = ℕ} (not (from == u)) (1 + place_in rest u) 0
    (ap not (subst (λ v. (from == v) ≡ true) (same_Some from u at) (is-itself from)))
next-place from u us rest (suc i) more at = cond-true {A = ℕ} (not (from == u)) (1 + place_in rest u) 0
    (ap not (other from u (more i at).0)) ∙ ap (λ n. 1 + n) (more i at).1 ∙ omega arith

-- the place of a number in a filtered range is that in one that goes further
filtered-place : (p : ℕ → Bool) (from n further i u : ℕ) → slice_get (filter p (range_with_len from n)) i ≡ Some u
    → place_in (filter p (range_with_len from (n + further))) u ≡ i
filtered-place p from zero further i u at = absurd (none-some u at)
filtered-place p from (suc n) further i u at =
    let longer : suc n + further ≡ suc (n + further) = omega arith in
    let us = filter p (range_with_len (from + 1) n) in
    let rest = filter p (range_with_len (from + 1) (n + further)) in
    ap (λ k. place_in (filter p (range_with_len from k)) u) longer
    ∙ ⊎_elim
    (λ in_it. ap (λ vs. place_in vs u) (cond-true (p from) (from ∷ rest) rest in_it)
    ∙ next-place from u us rest i (λ j e. (low j e, filtered-place p (from + 1) n further j u e))
    (sym (ap (λ vs. slice_get vs i) (cond-true (p from) (from ∷ us) us in_it)) ∙ at))
    (λ out_of_it. ap (λ vs. place_in vs u) (cond-false (p from) (from ∷ rest) rest out_of_it)
    ∙ filtered-place p (from + 1) n further i u (sym (ap (λ vs. slice_get vs i) (cond-false (p from) (from ∷ us) us out_of_it)) ∙ at))
    (cases_Bool (p from))
  where
    low : (j : ℕ) → slice_get (filter p (range_with_len (from + 1) n)) j ≡ Some u → from + 1 ≤ u
    low j e = let place = of-filtered p (range_with_len (from + 1) n) j u e in range-low (from + 1) n place.0 u place.1

range-high : (from n i u : ℕ) → slice_get (range_with_len from n) i ≡ Some u → u < from + n
range-high from zero i u at = absurd (none-some u at)
range-high from (suc n) zero u at = let same = same_Some from u at in omega (arith, same)
range-high from (suc n) (suc i) u at = let more = range-high (from + 1) n i u at in omega (arith, more)

module _ (S : Tables) (fault : Fault) (grid : Grid) (ms : List ℕ) (p : List ℤ) (V : View) where
  abbrev base : ℕ
  base = length (cover_spans S)

  abbrev parts : List Claim
  parts = cover_parts S fault grid ms

  abbrev names : List ℕ
  names = filter (is_used base parts) (range_with_len 0 base)

  same-place : (i u : ℕ) → slice_get names i ≡ Some u → place_in (used base parts) u ≡ i
  same-place i u at = filtered-place (is_used base parts) 0 base (length (entries_of base parts)) i u at

  values_of : HasKept S (cover_obliged S fault grid ms) p V → HasValues S fault grid ms p V
  values_of kept u low is =
      let long = cover_long S in
      let one = in-filter (is_used base parts) 0 base u (omega arith) (omega (arith, low, long)) is in
      let at = place-found (λ v. v == u) names one in
      let there = subst (λ v. slice_get names (place_in names u) ≡ Some v) (eqb-true at.0 u at.2) at.1 in
      ap (values_at p) (same-place (place_in names u) u there) ∙ kept (place_in names u) u there low

  kept_of : HasValues S fault grid ms p V → HasKept S (cover_obliged S fault grid ms) p V
  kept_of has i u at low = sym (ap (values_at p) (same-place i u at))
      ∙ has u low (of_filter (is_used base parts) (range_with_len 0 base) i u at)

pub names_once : NamesAreOnce
names_once spans parts i j u at there =
    let p = is_used (length spans) parts in
    sym (filtered-place p 0 (length spans) 0 i u at) ∙ filtered-place p 0 (length spans) 0 j u there

pub kept_is_values : KeptIsValues
kept_is_values S fault grid ms p V = (values_of S fault grid ms p V, kept_of S fault grid ms p V)
