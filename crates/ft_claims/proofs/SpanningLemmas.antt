-- The spans of more pairs, and more marked places.
use Rattle.std.proofs.Common.{◌≡◌, ◌∙◌, sym, ap, subst, refl, ℕ, zero, suc, ◌+◌, ◌<◌, ◌≤◌, ℤ, Bool, true, false, cond, List, [], ◌∷◌, ◌++◌}
use Rattle.std.proofs.Common.{filter, length, take, drop, get_or, arith, Some, slice_get}
use Rattle.std.specs.Prelude.{slice_index_or, if◌then◌else◌}
use Rattle.std.specs.List.{range_with_len}
use Rattle.std.proofs.lemmas.Bool.{cond_both, true≢false}
use Rattle.std.proofs.lemmas.List.{append-nil, take_all, take_more}
use Rattle.std.proofs.lemmas.List.FromFn.{length-range_with_len}
use Rattle.std.proofs.lemmas.List.Elements.{filter-append}
use Rattle.std.proofs.lemmas.Option.{none-some, same_Some, slice_get_within, get_or_from_slice_get}
use Rattle.std.proofs.Math.ListN.{drop_of_length-le}
use Rattle.std.proofs.Math.Seq.{drop-cons}
use Rattle.ft_claims.specs.building.Marking.{ArePlaces, marked_places}
use Rattle.ft_claims.specs.meaning.Areas.{Spans, quotient_span, with_spans}
use Rattle.ft_claims.specs.meaning.Forms.{Entry, Entries}
use Rattle.ft_claims.proofs.Lists.{of_filter, in-filtered}

pub spans-turn : (spans all new : Spans) (T : Entries) (i : ℕ) (e : Entry) (span : ℤ × ℤ) → i < length T → e ≡ slice_index_or T i e
    → span ≡ quotient_span all e → new ≡ all ++ span ∷ [] → with_spans all (drop i T) ≡ with_spans spans T
    → with_spans new (drop (i + 1) T) ≡ with_spans spans T
spans-turn spans all new T i e span within is found made before =
    let after : i + 1 ≡ suc i = omega arith in
    (λ j. with_spans (made j) (drop (after j) T))
    ∙ ap (λ s. with_spans (all ++ s ∷ []) (drop (suc i) T)) (found ∙ ap (quotient_span all) is)
    ∙ ap (with_spans all) (sym (drop-cons T i e within)) ∙ before

range-at : (from n i : ℕ) → i < n → slice_get (range_with_len from n) i ≡ Some (from + i)
range-at from zero i l = absurd (omega (arith, l))
range-at from (suc n) zero l = let same : from ≡ from + 0 = omega arith in ap Some same
range-at from (suc n) (suc i) l =
    let same : (from + 1) + i ≡ from + suc i = omega arith in range-at (from + 1) n i (omega (arith, l)) ∙ ap Some same

-- one more place
pub places-more : (marks : List Bool) (places new : List ℕ) (i : ℕ) (mark : Bool) → i < length marks → mark ≡ slice_index_or marks i false
    → places ≡ filter (λ u. slice_index_or marks u false) (take i (range_with_len 0 (length marks)))
    → new ≡ (if mark then places ++ i ∷ [] else places)
    → new ≡ filter (λ u. slice_index_or marks u false) (take (i + 1) (range_with_len 0 (length marks)))
places-more marks places new i mark within is before made =
    let place : 0 + i ≡ i = omega arith in
    let here = get_or_from_slice_get all i (0 + i) i (range-at 0 (length marks) i within) ∙ place in
    made ∙ ap (λ b. if b then places ++ i ∷ [] else places) is ∙ (λ j. if p i then before j ++ i ∷ [] else before j) ∙ one (p i)
    ∙ sym (filter-append p (take i all) (i ∷ []))
    ∙ ap (filter p) (sym (take_more all i i (subst (λ n. i < n) (sym (length-range_with_len 0 (length marks))) within)
    ∙ ap (λ u. take i all ++ u ∷ []) here))
  where
    all : List ℕ
    all = range_with_len 0 (length marks)

    p : ℕ → Bool
    p u = slice_index_or marks u false

    one : (b : Bool) → (if b then filter p (take i all) ++ i ∷ [] else filter p (take i all)) ≡ filter p (take i all) ++ cond b (i ∷ []) []
    one true = refl
    one false = sym (append-nil (filter p (take i all)))

pub places-end : (marks : List Bool) (places : List ℕ) (i : ℕ) → length marks ≤ i
    → places ≡ filter (λ u. slice_index_or marks u false) (take i (range_with_len 0 (length marks)))
    → places ≡ marked_places marks
places-end marks places i past before = before ∙ ap (filter (λ u. slice_index_or marks u false))
    (take_all i (range_with_len 0 (length marks)) (let long = length-range_with_len 0 (length marks) in omega (arith, past, long)))

is-marked : (marks : List Bool) (m : ℕ) → slice_index_or marks m false ≡ true → slice_get marks m ≡ Some true
is-marked [] m h = absurd (true≢false (sym h))
is-marked (b ∷ marks) zero h = ap Some h
is-marked (b ∷ marks) (suc m) h = is-marked marks m h

module _ (p : ℕ → Bool) where
  -- the numbers of a range that pass, with one more before them
  longer : (from n : ℕ) (P : List ℕ → Type 0) → P (from ∷ filter p (range_with_len (from + 1) n)) → P (filter p (range_with_len (from + 1) n))
      → P (filter p (range_with_len from (suc n)))
  longer from n P kept dropped = cond_both (p from) (from ∷ filter p (range_with_len (from + 1) n)) (filter p (range_with_len (from + 1) n))
      P (λ is. kept) (λ isnt. dropped)

  first-not-under : (from : ℕ) (rest : List ℕ) → ((j m : ℕ) → slice_get rest j ≡ Some m → from + 1 ≤ m)
      → (j m : ℕ) → slice_get (from ∷ rest) j ≡ Some m → from ≤ m
  first-not-under from rest more zero m e = let same = same_Some from m e in omega (arith, same)
  first-not-under from rest more (suc j) m e = let l = more j m e in omega (arith, l)

  not-under : (from n j m : ℕ) → slice_get (filter p (range_with_len from n)) j ≡ Some m → from ≤ m
  not-under from zero j m = λ e. absurd (none-some m e)
  not-under from (suc n) j m = longer from n (λ us. slice_get us j ≡ Some m → from ≤ m)
      (first-not-under from (filter p (range_with_len (from + 1) n)) (not-under (from + 1) n) j m)
      (λ e. let l = not-under (from + 1) n j m e in omega (arith, l))

  first-rising : (from : ℕ) (rest : List ℕ) → ((j m : ℕ) → slice_get rest j ≡ Some m → from + 1 ≤ m)
      → ((i j m k : ℕ) → i < j → slice_get rest i ≡ Some m → slice_get rest j ≡ Some k → m < k)
      → (i j m k : ℕ) → i < j → slice_get (from ∷ rest) i ≡ Some m → slice_get (from ∷ rest) j ≡ Some k → m < k
  first-rising from rest low up i zero m k l e f = absurd (omega (arith, l))
  first-rising from rest low up zero (suc j) m k l e f = let same = same_Some from m e in let above = low j k f in omega (arith, same, above)
  first-rising from rest low up (suc i) (suc j) m k l e f = up i j m k (omega (arith, l)) e f

  rising : (from n i j m k : ℕ) → i < j → slice_get (filter p (range_with_len from n)) i ≡ Some m
      → slice_get (filter p (range_with_len from n)) j ≡ Some k → m < k
  rising from zero i j m k l = λ e f. absurd (none-some m e)
  rising from (suc n) i j m k l = longer from n (λ us. slice_get us i ≡ Some m → slice_get us j ≡ Some k → m < k)
      (first-rising from (filter p (range_with_len (from + 1) n)) (not-under (from + 1) n) (rising (from + 1) n) i j m k l)
      (rising (from + 1) n i j m k l)

pub places-are : (marks : List Bool) (places : List ℕ) → places ≡ marked_places marks → ArePlaces marks places
places-are marks places is = subst (ArePlaces marks) (sym is) (record {
  marked = λ j m e. is-marked marks m (of_filter p (range_with_len 0 (length marks)) j m e);
  each = λ m e.
      let none : 0 + m ≡ m = omega arith in
      in-filtered p (range_with_len 0 (length marks)) m m (range-at 0 (length marks) m (slice_get_within marks m true e) ∙ ap Some none)
      (get_or_from_slice_get marks m true false e);
  rising = λ i j m k e f l. rising p 0 (length marks) i j m k l e f;
})
  where
    p : ℕ → Bool
    p u = slice_index_or marks u false

pub spans-end : (spans all : Spans) (T : Entries) (i : ℕ) → length T ≤ i → with_spans all (drop i T) ≡ with_spans spans T
    → all ≡ with_spans spans T
spans-end spans all T i past before = ap (with_spans all) (sym (drop_of_length-le T past)) ∙ before
