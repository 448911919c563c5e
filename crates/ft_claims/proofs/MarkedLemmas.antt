-- Which places are marked, and what the marks of a formula's unknowns give: its new numbers, its spans and its names.
use Rattle.std.proofs.Common.{◌≡◌, ◌∙◌, sym, ap, subst, refl, ℕ, zero, suc, ◌+◌, ◌<◌, ◌≤◌, pos, ◌<ℤ◌, Bool, true, false, ◌||◌, cond}
use Rattle.std.proofs.Common.{List, [], ◌∷◌, ◌++◌, map, filter, length, take, replicate, Some, slice_get, slice_set, arith, ⊎_elim}
use Rattle.std.specs.Prelude.{nat_le, nat_lt, slice_index_or, ◌==◌, All, min}
use Rattle.std.specs.List.{list_all, list_any, flat_map, range_with_len}
use Rattle.std.proofs.lemmas.Int.{ints}
use Rattle.std.proofs.lemmas.Bool.{cases_Bool, cond-true, cond-false, or_cases, or_left, or_right, true≢false, ltb-true, eqb-true, eq-eqb}
use Rattle.std.proofs.lemmas.Bool.{cond_both, le-leb}
use Rattle.std.proofs.lemmas.List.{length-append, length-replicate, length-set, length-take, get_or-take, get_or-replicate}
use Rattle.std.proofs.lemmas.List.Elements.{All-nil, All-cons}
use Rattle.std.proofs.lemmas.List.Folds.{list_any-append}
use Rattle.std.proofs.lemmas.Option.{get_or_from_slice_get, slice_get-get_or}
use Rattle.ft_core.specs.laws.Places.{set-here, set-there}
use Rattle.ft_linear.specs.meaning.Form.{Factor, HasUnknowns, span_at}
use Rattle.ft_settle.specs.declared.raw.Raw.{Raw}
use Rattle.ft_claims.specs.building.Marking.{first_marks, marked_places, AreOver}
use Rattle.ft_claims.specs.declared.claim.Claim.{Claim}
use Rattle.ft_claims.specs.meaning.Areas.{Spans, counts, is_one_of, is_used, marked_at, number_by, pair_unknowns, place_in, renumber, used}
use Rattle.ft_claims.specs.meaning.Areas.{with_marks, with_spans, finished}
use Rattle.ft_claims.specs.meaning.Forms.{Entry, Entries}
use Rattle.ft_claims.specs.meaning.Formulas.{Collected, collected, conjuncts, entries_of, formula_of, parts_of, unknowns_of}
use Rattle.ft_claims.proofs.KernelLemmas.{AllOf, ordered, unknowns-And}
use Rattle.ft_claims.proofs.Lists.{of_any, of-filtered}
use Rattle.ft_claims.proofs.ObligedLemmas.{all-of-weaker, all_used, by-used, flat-map-append, length-with-spans, range-bound}
use Rattle.ft_claims.proofs.RenumberLemmas.{marked-number, numbered-alike}
use Rattle.ft_claims.proofs.UnknownLemmas.{AllIn, IsOrdered}

or-true : (b : Bool) → (b || true) ≡ true
or-true true = refl
or-true false = refl

or-false : (b : Bool) → (b || false) ≡ b
or-false true = refl
or-false false = refl

or-assoc : (a b c : Bool) → ((a || b) || c) ≡ (a || (b || c))
or-assoc true b c = refl
or-assoc false b c = refl

same-truth : (a b : Bool) → (a ≡ true → b ≡ true) → (b ≡ true → a ≡ true) → a ≡ b
same-truth true b f g = sym (f refl)
same-truth false true f g = g refl
same-truth false false f g = refl

marked-length : (marks : List Bool) (u : ℕ) → length (marked_at marks u) ≡ length marks
marked-length marks u = cond_both (nat_lt u (length marks)) (slice_set marks u true) marks (λ ms. length ms ≡ length marks)
    (λ low. length-set marks u true) (λ high. refl)

not-same : (u i n : ℕ) → nat_lt u n ≡ false → i < n → (u == i) ≡ false
not-same u i n high low = grind (arith, high, low)

marked-one : (marks : List Bool) (u i : ℕ) → i < length marks → slice_index_or (marked_at marks u) i false
    ≡ (slice_index_or marks i false || (u == i))
marked-one marks u i l = cond_both (nat_lt u (length marks)) (slice_set marks u true) marks (λ ms. slice_index_or ms i false
    ≡ (slice_index_or marks i false || (u == i)))
    (λ low. ⊎_elim
    (λ here. get_or_from_slice_get (slice_set marks u true) i true false (subst (λ j. slice_get (slice_set marks u true) j ≡ Some true)
    (eqb-true u i here) (set-here marks u true (ltb-true u (length marks) low)))
    ∙ sym (ap (λ b. slice_index_or marks i false || b) here ∙ or-true (slice_index_or marks i false)))
    (λ other. get_or_from_slice_get (slice_set marks u true) i (slice_index_or marks i false) false
    (set-there marks u true i (λ e. true≢false (sym (eq-eqb u i (sym e)) ∙ other)) ∙ slice_get-get_or marks i false l)
    ∙ sym (ap (λ b. slice_index_or marks i false || b) other ∙ or-false (slice_index_or marks i false)))
    (cases_Bool (u == i)))
    (λ high. sym (ap (λ b. slice_index_or marks i false || b) (not-same u i (length marks) high l)
    ∙ or-false (slice_index_or marks i false)))

pub marks-length : (us : List ℕ) (marks : List Bool) → length (with_marks marks us) ≡ length marks
marks-length [] marks = refl
marks-length (u ∷ us) marks = marks-length us (marked_at marks u) ∙ marked-length marks u

-- a place is marked where it was, and where it is one of the list
pub marks-have : (us : List ℕ) (marks : List Bool) (i : ℕ) → i < length marks → slice_index_or (with_marks marks us) i false
    ≡ (slice_index_or marks i false || is_one_of us i)
marks-have [] marks i l = sym (or-false (slice_index_or marks i false))
marks-have (u ∷ us) marks i l =
    marks-have us (marked_at marks u) i (subst (λ n. i < n) (sym (marked-length marks u)) l)
    ∙ ap (λ b. b || is_one_of us i) (marked-one marks u i l)
    ∙ or-assoc (slice_index_or marks i false) (u == i) (is_one_of us i)

first-length : (n m : ℕ) → length (first_marks n m) ≡ n + m
first-length n m = length-append (replicate n false) (replicate m true)
    ∙ (let a = length-replicate n false in let b = length-replicate m true in omega (arith, a, b))

first-is : (n m u : ℕ) → u < n + m → slice_index_or (first_marks n m) u false ≡ nat_le n u
first-is zero m u l = get_or-replicate m u true false (omega (arith, l)) ∙ sym (le-leb 0 u (omega arith))
first-is (suc n) m zero l = under n
  where
    under : (n : ℕ) → false ≡ nat_le (suc n) zero
    under n = grind arith
first-is (suc n) m (suc u) l = first-is n m u (omega (arith, l)) ∙ up n u
  where
    up : (n u : ℕ) → nat_le n u ≡ nat_le (suc n) (suc u)
    up n u = grind arith

-- tests that agree on a range leave the same of it
pub filter-alike : (p q : ℕ → Bool) (from n : ℕ) → ((u : ℕ) → from ≤ u → u < from + n → p u ≡ q u)
    → filter p (range_with_len from n) ≡ filter q (range_with_len from n)
filter-alike p q from zero same = refl
filter-alike p q from (suc n) same =
    let here = same from (omega arith) (omega arith) in
    let more = filter-alike p q (from + 1) n (λ u low high. same u (omega (arith, low)) (omega (arith, high))) in
    λ i. cond (here i) (from ∷ more i) (more i)

filter-below : (p : ℕ → Bool) (top from n : ℕ) → from + n ≤ top → All (λ u. u < top) (filter p (range_with_len from n))
filter-below p top from zero l = All-nil (λ u. u < top)
filter-below p top from (suc n) l =
    let more = filter-below p top (from + 1) n (omega (arith, l)) in
    cond_both (p from) (from ∷ filter p (range_with_len (from + 1) n)) (filter p (range_with_len (from + 1) n)) (All (λ u. u < top))
    (λ kept. All-cons (λ u. u < top) from (filter p (range_with_len (from + 1) n)) (omega (arith, l)) more) (λ dropped. more)

each-one : (P : ℕ → Type 0) (us : List ℕ) (u : ℕ) → AllOf P us → is_one_of us u ≡ true → P u
each-one P [] u all one = absurd (true≢false (sym one))
each-one P (v ∷ us) u all one = ⊎_elim
    (λ here. subst P (eqb-true v u here) all.0)
    (λ later. each-one P us u all.1 later)
    (or_cases (v == u) (is_one_of us u) one)

pub over-factors : (n : ℕ) (fs : List Factor) → AllIn (λ u. u < n) fs → HasUnknowns n fs
over-factors n [] all = All-nil (λ (f : Factor). f.0 < n)
over-factors n (f ∷ fs) all = All-cons (λ (f : Factor). f.0 < n) f fs all.0 (over-factors n fs all.1)

pub over : (base : ℕ) (T : Entries) → IsOrdered base T → AreOver base T
over base T o d e is = let at = o d e is in (over-factors (base + d) e.0.factors at.0, omega (arith, ints, at.1))

module _ (spans : Spans) (parts : List Claim) (good : list_all (λ (g : Collected). g.good) (map (collected (length spans)) parts) ≡ true)
  where
    abbrev base : ℕ
    base = length spans

    abbrev T : Entries
    T = entries_of base parts

    abbrev whole : Raw
    whole = formula_of base parts

    abbrev raws : List Raw
    raws = parts_of base T parts

    abbrev pub AreMarks : List Bool → Type 0
    AreMarks marks = marks ≡ with_marks (with_marks (first_marks base (length T)) (unknowns_of whole)) (pair_unknowns T)

    pub marks-long : (marks : List Bool) → AreMarks marks → length marks ≡ base + length T
    marks-long marks is = ap length is ∙ marks-length (pair_unknowns T) (with_marks (first_marks base (length T)) (unknowns_of whole))
        ∙ marks-length (unknowns_of whole) (first_marks base (length T)) ∙ first-length base (length T)

    mark-is : (marks : List Bool) → AreMarks marks → (u : ℕ) → u < base + length T → slice_index_or marks u false
        ≡ ((nat_le base u || is_one_of (unknowns_of whole) u) || is_one_of (pair_unknowns T) u)
    mark-is marks is u l =
        let first : u < length (first_marks base (length T)) = subst (λ n. u < n) (sym (first-length base (length T))) l in
        ap (λ ms. slice_index_or ms u false) is
        ∙ marks-have (pair_unknowns T) (with_marks (first_marks base (length T)) (unknowns_of whole)) u
        (subst (λ n. u < n) (sym (marks-length (unknowns_of whole) (first_marks base (length T)))) first)
        ∙ ap (λ b. b || is_one_of (pair_unknowns T) u) (marks-have (unknowns_of whole) (first_marks base (length T)) u first
        ∙ ap (λ b. b || is_one_of (unknowns_of whole) u) (first-is base (length T) u l))

    part-of-whole : (u : ℕ) → is_one_of (flat_map unknowns_of raws) u ≡ true → is_one_of (unknowns_of whole) u ≡ true
    part-of-whole u one =
        ap (λ us. is_one_of us u) (unknowns-And (raws ++ conjuncts base T) ∙ flat-map-append unknowns_of raws (conjuncts base T))
        ∙ list_any-append (λ v. v == u) (flat_map unknowns_of raws) (flat_map unknowns_of (conjuncts base T))
        ∙ or_left (is_one_of (flat_map unknowns_of raws) u) (is_one_of (flat_map unknowns_of (conjuncts base T)) u) one

    whole-used : (u : ℕ) → is_one_of (unknowns_of whole) u ≡ true → is_used base parts u ≡ true
    whole-used u one = by-used (is_used base parts) (range_with_len 0 (base + length T)) u
        (each-one (λ v. is_one_of (used base parts) v ≡ true) (unknowns_of whole) u (all_used spans parts good) one)

    abbrev F : ℕ → Bool
    F u = nat_le base u

    abbrev D : ℕ → Bool
    D u = is_one_of (unknowns_of whole) u

    abbrev A : ℕ → Bool
    A u = is_one_of (flat_map unknowns_of raws) u

    abbrev B : ℕ → Bool
    B u = is_one_of (pair_unknowns T) u

    -- what is marked is what the formula uses
    pub mark-used : (marks : List Bool) → AreMarks marks → (u : ℕ) → u < base + length T → is_used base parts u ≡ slice_index_or marks u false
    mark-used marks is u l = same-truth (is_used base parts u) ((F u || D u) || B u) to from ∙ sym (mark-is marks is u l)
      where
        to : is_used base parts u ≡ true → ((F u || D u) || B u) ≡ true
        to h = ⊎_elim
            (λ ab. ⊎_elim
            (λ a. or_left (F u || D u) (B u) (or_right (F u) (D u) (part-of-whole u a)))
            (λ b. or_right (F u || D u) (B u) b)
            (or_cases (A u) (B u) ab))
            (λ f. or_left (F u || D u) (B u) (or_left (F u) (D u) f))
            (or_cases (A u || B u) (F u) h)

        from : ((F u || D u) || B u) ≡ true → is_used base parts u ≡ true
        from h = ⊎_elim
            (λ fd. ⊎_elim (λ f. or_right (A u || B u) (F u) f) (λ d. whole-used u d) (or_cases (F u) (D u) fd))
            (λ b. or_left (A u || B u) (F u) (or_right (A u) (B u) b))
            (or_cases (F u || D u) (B u) h)

    used-low : (u : ℕ) → is_one_of (used base parts) u ≡ true → u < base + length T
    used-low u one =
        let at = of_any (λ v. v == u) (used base parts) one in
        let from = of-filtered (is_used base parts) (range_with_len 0 (base + length T)) at.0 at.1 at.2 in
        let low = range-bound 0 (base + length T) from.0 at.1 from.1 in
        let same = eqb-true at.1 u at.3 in
        omega (arith, low, same)

    -- the numbers that count the marks give the formula its new numbers
    pub numbers-same : (marks : List Bool) → AreMarks marks → (numbers : List ℕ) → numbers ≡ counts 0 marks
        → renumber (number_by numbers) whole ≡ (finished spans parts).formula
    numbers-same marks is numbers are =
        let long = marks-long marks is in
        numbered-alike (number_by numbers) (place_in (used base parts)) whole
        (all-of-weaker (λ u. is_one_of (used base parts) u ≡ true) (λ u. number_by numbers u ≡ place_in (used base parts) u)
        (unknowns_of whole)
        (λ u one.
        let low = used-low u one in
        ap (λ ns. number_by ns u) are
        ∙ marked-number (is_used base parts) marks u (λ i l. mark-used marks is i (subst (λ n. i < n) long l))
        (subst (λ n. u < n) (sym long) low) (by-used (is_used base parts) (range_with_len 0 (base + length T)) u one)
        ∙ ap (λ n. place_in (filter (is_used base parts) (range_with_len 0 n)) u) long)
        (all_used spans parts good))

    pub places-same : (marks : List Bool) → AreMarks marks → marked_places marks ≡ used base parts
    places-same marks is =
        ap (λ n. filter (λ u. slice_index_or marks u false) (range_with_len 0 n)) (marks-long marks is)
        ∙ filter-alike (λ u. slice_index_or marks u false) (is_used base parts) 0 (base + length T)
        (λ u low high. sym (mark-used marks is u (omega (arith, high))))

    pub names-same : (marks : List Bool) → AreMarks marks → marked_places (take base marks) ≡ (finished spans parts).names
    names-same marks is =
        let long = marks-long marks is in
        let short : length (take base marks) ≡ base = length-take base marks ∙ least base (length T) (length marks) long in
        ap (λ n. filter (λ u. slice_index_or (take base marks) u false) (range_with_len 0 n)) short
        ∙ filter-alike (λ u. slice_index_or (take base marks) u false) (is_used base parts) 0 base
        (λ u low high. get_or-take base marks u false (omega (arith, high)) ∙ sym (mark-used marks is u (omega (arith, high))))
      where
        least : (a b n : ℕ) → n ≡ a + b → min a n ≡ a
        least a b n e = grind (arith, e)

    -- each place that is marked has a span
    pub places-low : (all : Spans) (places : List ℕ) (marks : List Bool) → AreMarks marks → places ≡ marked_places marks
        → all ≡ with_spans spans T → All (λ place. place < length all) places
    places-low all places marks is are with =
        let long = marks-long marks is in
        let many : length all ≡ base + length T = ap length with ∙ length-with-spans T spans in
        subst (All (λ place. place < length all)) (sym are) (filter-below (λ u. slice_index_or marks u false) (length all) 0 (length marks)
        (omega (arith, long, many)))

    pub pairs-over : AreOver base T
    pairs-over = over base T (ordered base parts good)

    -- the marks of a formula and its pairs that are those of the parts
    pub marks-are : (named counted : ℕ) (made : Raw) (pairs : Entries) (marks : List Bool) → named ≡ base → counted ≡ base
        → made ≡ formula_of named parts → pairs ≡ entries_of named parts
        → marks ≡ with_marks (with_marks (first_marks counted (length pairs)) (unknowns_of made)) (pair_unknowns pairs) → AreMarks marks
    marks-are named counted made pairs marks name count formula entries is =
        let F = formula ∙ ap (λ n. formula_of n parts) name in
        let E = entries ∙ ap (λ n. entries_of n parts) name in
        is ∙ (λ i. with_marks (with_marks (first_marks (count i) (length (E i))) (unknowns_of (F i))) (pair_unknowns (E i)))

    -- the formula with the numbers that count the marks
    pub formula-same : (marks lent_marks : List Bool) (numbers lent_numbers : List ℕ) (named : ℕ) (made : Raw) → AreMarks marks
        → lent_marks ≡ marks → numbers ≡ counts 0 lent_marks → lent_numbers ≡ numbers → named ≡ base → made ≡ formula_of named parts
        → renumber (number_by lent_numbers) made ≡ (finished spans parts).formula
    formula-same marks lent_marks numbers lent_numbers named made are lent is same name formula =
        let F = formula ∙ ap (λ n. formula_of n parts) name in
        (λ i. renumber (number_by (same i)) (F i)) ∙ numbers-same marks are numbers (is ∙ ap (counts 0) lent)

    -- the spans of what is used
    pub spans-same : (marks lent_marks : List Bool) (all lent_all : Spans) (pairs lent_pairs : Entries) (places lent_places : List ℕ)
        (named : ℕ) (left : Spans) → AreMarks marks → lent_marks ≡ marks → named ≡ base → pairs ≡ entries_of named parts
        → lent_pairs ≡ pairs → all ≡ with_spans spans lent_pairs → lent_all ≡ all → places ≡ marked_places lent_marks
        → lent_places ≡ places → left ≡ map (span_at lent_all) lent_places → left ≡ (finished spans parts).spans
    spans-same marks lent_marks all lent_all pairs lent_pairs places lent_places named left are lent name entries same_pairs made same_all
        marked same_places is =
        let A = same_all ∙ made ∙ ap (with_spans spans) (same_pairs ∙ entries ∙ ap (λ n. entries_of n parts) name) in
        let P = same_places ∙ marked ∙ ap marked_places lent ∙ places-same marks are in
        is ∙ (λ i. map (span_at (A i)) (P i))
