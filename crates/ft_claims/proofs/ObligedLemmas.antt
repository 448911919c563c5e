-- A point of an obligation tells that its conditions hold, for all numbers that it gives its names, and numbers in their spans
-- at which they hold make a point.
use Rattle.std.proofs.Common.{◌≡◌, ◌∙◌, sym, ap, subst, refl, ℕ, zero, suc, ◌+◌, ◌<◌, ◌≤◌, ℤ, pos, ◌*ℤ◌, ◌+ℤ◌, ◌-ℤ◌, Bool, true, false, not}
use Rattle.std.proofs.Common.{◌&&◌, ◌||◌, ◌==◌, List, [], ◌∷◌, ◌++◌, map, filter, length, Some, slice_get, arith, ⊎_elim}
use Rattle.std.specs.Prelude.{int_le, nat_le}
use Rattle.std.specs.List.{list_all, list_any, flat_map, range_with_len}
use Rattle.std.proofs.lemmas.Bool.{cases_Bool, cond-true, cond-false, or_left, or_right}
use Rattle.std.proofs.lemmas.Bool.Decides.{Decides-eqb}
use Rattle.std.proofs.lemmas.List.Folds.{list_any-append}
use Rattle.std.proofs.lemmas.List.{length_push}
use Rattle.std.proofs.lemmas.Option.{none-some, same_Some, slice_get_within, get_or_from_slice_get, slice_get-get_or}
use Rattle.ft_base.specs.Interval.{IsWithin}
use Rattle.ft_linear.specs.meaning.Form.{Factor, LinView, sum_at, values_at, InArea, span_at}
use Rattle.ft_settle.specs.meaning.Raw.{raw_truth}
use Rattle.ft_settle.specs.declared.raw.Raw.{Raw}
use Rattle.ft_settle.specs.declared.raw.Raw.TheOpen as open_raw
use Rattle.ft_settle.specs.declared.raw.Raw.TheVariants as raw
use Rattle.ft_settle.specs.declared.raw.Raw.TheVariants.{rolls-Le, rolls-Not, rolls-And, rolls-Or}
use Rattle.ft_settle.specs.laws.Raws.{WithRaw, bare_raw, raw_induction, folds, raw-Le, raw-Not, raw-And, raw-Or}
use Rattle.ft_claims.specs.declared.claim.Claim.{Claim}
use Rattle.ft_claims.specs.meaning.Claims.{claim_true}
use Rattle.ft_claims.specs.meaning.Forms.{constant_form, unknown, minus, times, Entry, Entries}
use Rattle.ft_claims.specs.meaning.Formulas.{Collected, collected, at_most, at_least, conjuncts, entries_of, parts_of, formula_of}
use Rattle.ft_claims.specs.meaning.Formulas.{unknowns_of, fill}
use Rattle.ft_claims.specs.meaning.Areas.{Spans, quotient_span, with_spans, pair_unknowns, is_one_of, is_used, used, place_in, renumbered}
use Rattle.ft_claims.specs.meaning.Areas.{layer_renumber, renumber, finished}
use Rattle.ft_claims.specs.meaning.Points.{IsPointOf}
use Rattle.ft_claims.specs.laws.FormulaLaws.{PointsTell}
use Rattle.ft_claims.proofs.Lists.{of_any, of_filter, of-filtered, of-mapped, mapped-at}
use Rattle.ft_claims.proofs.UnknownLemmas.{AllIn, all-weaker, plus-in, minus-in, times-form-in, fill-below}
use Rattle.ft_claims.proofs.GatherLemmas.{place-found, append-assoc}
use Rattle.ft_claims.proofs.KernelLemmas.{AllOf, all-append, unknowns-Le, unknowns-And, of-factors, factors-of, raw-same, parts_low}
use Rattle.ft_claims.proofs.KernelLemmas.{ordered, has, satisfied, holds_by}
use Rattle.ft_claims.proofs.AreaLemmas.{fill-within}

-- other numbers for the unknowns
module _ (ρ : ℕ → ℕ) (x : ℕ → ℤ) where
  pub renumber-Le : (l : LinView) → renumber ρ (raw.Le l) ≡ raw.Le (renumbered ρ l)
  unfolding renumber
  renumber-Le l = folds Raw (layer_renumber ρ) _ (open_raw.Le l) (rolls-Le l)

  pub renumber-Not : (r : Raw) → renumber ρ (raw.Not r) ≡ raw.Not (renumber ρ r)
  unfolding renumber
  renumber-Not r = folds Raw (layer_renumber ρ) _ (open_raw.Not r) (rolls-Not r)

  pub renumber-And : (rs : List Raw) → renumber ρ (raw.And rs) ≡ raw.And (map (renumber ρ) rs)
  unfolding renumber
  renumber-And rs = folds Raw (layer_renumber ρ) _ (open_raw.And rs) (rolls-And rs)

  pub renumber-Or : (rs : List Raw) → renumber ρ (raw.Or rs) ≡ raw.Or (map (renumber ρ) rs)
  unfolding renumber
  renumber-Or rs = folds Raw (layer_renumber ρ) _ (open_raw.Or rs) (rolls-Or rs)

  sum-renumbered : (fs : List Factor) → sum_at x (map (λ f. (ρ f.0, f.1)) fs) ≡ sum_at (λ u. x (ρ u)) fs
  sum-renumbered [] = refl
  sum-renumbered (f ∷ fs) = ap (λ z. (f.1 *ℤ x (ρ f.0)) +ℤ z) (sum-renumbered fs)

  abbrev IsRenumbered : Raw → Type 0
  IsRenumbered r = raw_truth x (renumber ρ r) ≡ raw_truth (λ u. x (ρ u)) r

  renumbered-parts : (parts : List (WithRaw IsRenumbered)) → (list_all (raw_truth x) (map (renumber ρ) (bare_raw parts))
      ≡ list_all (raw_truth (λ u. x (ρ u))) (bare_raw parts))
      × (list_any (raw_truth x) (map (renumber ρ) (bare_raw parts)) ≡ list_any (raw_truth (λ u. x (ρ u))) (bare_raw parts))
  renumbered-parts [] = (refl, refl)
  renumbered-parts (p ∷ parts) = let more = renumbered-parts parts in ((λ i. p.1 i && more.0 i), (λ i. p.1 i || more.1 i))

  pub renumber-truth : (r : Raw) → IsRenumbered r
  renumber-truth = raw_induction IsRenumbered (record {
    form = λ l. ap (raw_truth x) (renumber-Le l) ∙ raw-Le x (renumbered ρ l)
        ∙ ap (λ z. int_le (z +ℤ l.constant) (pos 0)) (sum-renumbered l.factors) ∙ sym (raw-Le (λ u. x (ρ u)) l);
    negated = λ r p. ap (raw_truth x) (renumber-Not r) ∙ raw-Not x (renumber ρ r) ∙ ap not p ∙ sym (raw-Not (λ u. x (ρ u)) r);
    all = λ parts. ap (raw_truth x) (renumber-And (bare_raw parts)) ∙ raw-And x (map (renumber ρ) (bare_raw parts))
        ∙ (renumbered-parts parts).0 ∙ sym (raw-And (λ u. x (ρ u)) (bare_raw parts));
    any = λ parts. ap (raw_truth x) (renumber-Or (bare_raw parts)) ∙ raw-Or x (map (renumber ρ) (bare_raw parts))
        ∙ (renumbered-parts parts).1 ∙ sym (raw-Or (λ u. x (ρ u)) (bare_raw parts));
  })

pub is-itself : (u : ℕ) → (u == u) ≡ true
is-itself u = (Decides-eqb u u).1 refl

-- what stands in a list is one of it
all-self : (us vs : List ℕ) → ((u : ℕ) → is_one_of us u ≡ true → is_one_of vs u ≡ true) → AllOf (λ u. is_one_of vs u ≡ true) us
all-self [] vs h = tt
all-self (u ∷ us) vs h = (
  h u (or_left (u == u) (is_one_of us u) (is-itself u)),
  all-self us vs (λ v is. h v (or_right (u == v) (is_one_of us v) is)),
)

pub all-of-weaker : (P Q : ℕ → Type 0) (us : List ℕ) → ((u : ℕ) → P u → Q u) → AllOf P us → AllOf Q us
all-of-weaker P Q [] h p = tt
all-of-weaker P Q (u ∷ us) h p = (h u p.0, all-of-weaker P Q us h p.1)

all-both : (P Q R : ℕ → Type 0) (fs : List Factor) → ((u : ℕ) → P u → Q u → R u) → AllIn P fs → AllIn Q fs → AllIn R fs
all-both P Q R [] h p q = tt
all-both P Q R (f ∷ fs) h p q = (h f.0 p.0 q.0, all-both P Q R fs h p.1 q.1)

pub both-of : (P Q R : ℕ → Type 0) (us : List ℕ) → ((u : ℕ) → P u → Q u → R u) → AllOf P us → AllOf Q us → AllOf R us
both-of P Q R [] h p q = tt
both-of P Q R (u ∷ us) h p q = (h u p.0 q.0, both-of P Q R us h p.1 q.1)

factor-self : (fs : List Factor) (vs : List ℕ) → ((u : ℕ) → is_one_of (map (λ f. f.0) fs) u ≡ true → is_one_of vs u ≡ true)
    → AllIn (λ u. is_one_of vs u ≡ true) fs
factor-self fs vs h = factors-of (λ u. is_one_of vs u ≡ true) fs (all-self (map (λ f. f.0) fs) vs h)

pair-self : (T : Entries) (d : ℕ) (e : Entry) → slice_get T d ≡ Some e → AllIn (λ u. is_one_of (pair_unknowns T) u ≡ true) e.0.factors
pair-self [] d e is = absurd (none-some e is)
pair-self (b ∷ T) zero e is = subst (λ (a : Entry). AllIn (λ u. is_one_of (pair_unknowns (b ∷ T)) u ≡ true) a.0.factors) (same_Some b e is)
    (factor-self b.0.factors (pair_unknowns (b ∷ T)) (λ u in_it. list_any-append (λ v. v == u) (map (λ f. f.0) b.0.factors)
    (pair_unknowns T) ∙ or_left _ (is_one_of (pair_unknowns T) u) in_it))
pair-self (b ∷ T) (suc d) e is = all-weaker (λ u. is_one_of (pair_unknowns T) u ≡ true) (λ u. is_one_of (pair_unknowns (b ∷ T)) u ≡ true)
    e.0.factors
    (λ u in_it. list_any-append (λ v. v == u) (map (λ f. f.0) b.0.factors) (pair_unknowns T)
    ∙ or_right (is_one_of (map (λ f. f.0) b.0.factors) u) _ in_it) (pair-self T d e is)

-- the unknowns of conjuncts are those of the pairs and the pairs' own
conjuncts-in : (P : ℕ → Type 0) (T : Entries) (n : ℕ) → ((d : ℕ) → d < length T → P (n + d))
    → ((d : ℕ) (e : Entry) → slice_get T d ≡ Some e → AllIn P e.0.factors)
    → AllOf P (flat_map unknowns_of (conjuncts n T))
conjuncts-in P [] n own in_forms = tt
conjuncts-in P (e ∷ T) n own in_forms =
    let first : n + 0 ≡ n = omega arith in
    let q : P n = subst P first (own 0 (omega arith)) in
    let form = in_forms zero e refl in
    let product : AllIn P (times e.1 (unknown n)).factors = times-form-in P e.1 (unknown n) (q, tt) in
    all-append P (unknowns_of (at_most n e)) _ (subst (AllOf P) (sym (unknowns-Le _))
    (of-factors P _ (minus-in P (times e.1 (unknown n)) e.0 product form)))
    (all-append P (unknowns_of (at_least n e)) _ (subst (AllOf P) (sym (unknowns-Le _))
    (of-factors P _ (plus-in P (minus e.0 (times e.1 (unknown n))) (constant_form (pos 1 -ℤ e.1))
    (minus-in P e.0 (times e.1 (unknown n)) form product) tt)))
    (conjuncts-in P T (suc n) (λ d l. let next : n + suc d ≡ suc n + d = omega arith in subst P next (own (suc d) (omega (arith, l))))
    (λ d a is. in_forms (suc d) a is)))

-- a number of a range that passes a test stands in the filtered range
pub in-filter : (p : ℕ → Bool) (from n u : ℕ) → from ≤ u → u < from + n → p u ≡ true → is_one_of (filter p (range_with_len from n)) u ≡ true
in-filter p from zero u low high is = absurd (omega (arith, low, high))
in-filter p from (suc n) u low high is = ⊎_elim
    (λ here.
    let same = (Decides-eqb from u).0 here in
    ap (λ us. is_one_of us u) (cond-true (p from) (from ∷ filter p (range_with_len (from + 1) n)) (filter p (range_with_len (from + 1) n))
    (ap p same ∙ is))
    ∙ or_left (from == u) (is_one_of (filter p (range_with_len (from + 1) n)) u) here)
    (λ elsewhere.
    let more = in-filter p (from + 1) n u (past from u low elsewhere) (omega (arith, high)) is in
    ⊎_elim
    (λ kept. ap (λ us. is_one_of us u) (cond-true (p from) (from ∷ filter p (range_with_len (from + 1) n))
    (filter p (range_with_len (from + 1) n)) kept)
    ∙ or_right (from == u) (is_one_of (filter p (range_with_len (from + 1) n)) u) more)
    (λ dropped. ap (λ us. is_one_of us u) (cond-false (p from) (from ∷ filter p (range_with_len (from + 1) n))
    (filter p (range_with_len (from + 1) n)) dropped) ∙ more)
    (cases_Bool (p from)))
    (cases_Bool (from == u))
  where
    past : (from u : ℕ) → from ≤ u → (from == u) ≡ false → from + 1 ≤ u
    past from u low e = grind (arith, low, e)

-- the value that stands for an unknown in a list of values, one for each unknown in order
value-in-place : (f : ℕ → ℤ) (us : List ℕ) (u : ℕ) → is_one_of us u ≡ true → values_at (map f us) (place_in us u) ≡ f u
value-in-place f us u is =
    let at = place-found (λ v. v == u) us is in
    let same = (Decides-eqb at.0 u).0 at.2 in
    get_or_from_slice_get (map f us) (place_in us u) (f u) (pos 0) (mapped-at f us (place_in us u) at.0 at.1 ∙ ap (λ v. Some (f v)) same)

pub flat-map-append : {A B : Type 0} (f : A → List B) (xs ys : List A) → flat_map f (xs ++ ys) ≡ flat_map f xs ++ flat_map f ys
flat-map-append f [] ys = refl
flat-map-append f (x ∷ xs) ys = ap (λ r. f x ++ r) (flat-map-append f xs ys) ∙ sym (append-assoc (f x) (flat_map f xs) (flat_map f ys))

pub length-with-spans : (T : Entries) (spans : Spans) → length (with_spans spans T) ≡ length spans + length T
length-with-spans [] spans = omega arith
length-with-spans (e ∷ T) spans =
    let more = length-with-spans T (spans ++ quotient_span spans e ∷ []) in let one = length_push spans (quotient_span spans e) in
    omega (arith, more, one)

pub range-bound : (from n i u : ℕ) → slice_get (range_with_len from n) i ≡ Some u → u < from + n
range-bound from zero i u e = absurd (none-some u e)
range-bound from (suc n) zero u e = let is = same_Some from u e in omega (arith, is)
range-bound from (suc n) (suc i) u e = let more = range-bound (from + 1) n i u e in omega (arith, more)

module _ (spans : Spans) (parts : List Claim) (good : list_all (λ (g : Collected). g.good) (map (collected (length spans)) parts) ≡ true)
  where
    abbrev base : ℕ
    base = length spans

    abbrev T : Entries
    T = entries_of base parts

    abbrev us : List ℕ
    us = used base parts

    abbrev IsUsed : ℕ → Type 0
    IsUsed u = is_one_of us u ≡ true

    abbrev raws : List Raw
    raws = parts_of base T parts

    in_used : (u : ℕ) → is_used base parts u ≡ true → u < base + length T → IsUsed u
    in_used u is low = in-filter (is_used base parts) 0 (base + length T) u (omega arith) (omega (arith, low)) is

    raws_used : AllOf IsUsed (flat_map unknowns_of raws)
    raws_used = both-of (λ u. is_one_of (flat_map unknowns_of raws) u ≡ true) (λ u. u < base + length T) IsUsed (flat_map unknowns_of raws)
        (λ u is low. in_used u (or_left _ _ (or_left _ _ is)) low)
        (all-self (flat_map unknowns_of raws) (flat_map unknowns_of raws) (λ u is. is)) (parts_low base T parts (has base parts good) good)

    pairs_used : (d : ℕ) (e : Entry) → slice_get T d ≡ Some e → AllIn IsUsed e.0.factors
    pairs_used d e is =
        let l = slice_get_within T d e is in
        all-both (λ u. is_one_of (pair_unknowns T) u ≡ true) (λ u. u < base + d) IsUsed e.0.factors
        (λ u one low. in_used u (or_left _ _ (or_right _ _ one)) (omega (arith, low, l))) (pair-self T d e is)
        (ordered base parts good d e is).0

    own_used : (d : ℕ) → d < length T → IsUsed (base + d)
    own_used d l = in_used (base + d) (or_right _ _ (up base d)) (omega (arith, l))
      where
        up : (a b : ℕ) → nat_le a (a + b) ≡ true
        up a b = grind arith

    pub all_used : AllOf IsUsed (unknowns_of (formula_of base parts))
    all_used = subst (AllOf IsUsed) (sym (unknowns-And (raws ++ conjuncts base T) ∙ flat-map-append unknowns_of raws (conjuncts base T)))
        (all-append IsUsed (flat_map unknowns_of raws) (flat_map unknowns_of (conjuncts base T)) raws_used
        (conjuncts-in IsUsed T base own_used pairs_used))

    -- numbers in their spans at which the conditions hold make a point
    pub makes_point : (σ : ℕ → ℤ) → InArea spans σ → list_all (claim_true σ) parts ≡ true
        → IsPointOf (finished spans parts) (map (fill base σ T) us)
    makes_point σ area holds =
        let ν : ℕ → ℤ = fill base σ T in
        let inside = fill-within T spans base σ refl (ordered base parts good) area in
        record {
          in_area = λ i s is.
              let at = of-mapped (span_at (with_spans spans T)) us i s is in
              let from = of-filtered (is_used base parts) (range_with_len 0 (base + length T)) i at.0 at.1 in
              let low = range-bound 0 (base + length T) from.0 at.0 from.1 in
              let long = length-with-spans T spans in
              let value = get_or_from_slice_get (map ν us) i (ν at.0) (pos 0) (mapped-at ν us i at.0 at.1) in
              subst (λ z. IsWithin s z) (sym value) (subst (λ r. IsWithin r (ν at.0)) at.2
              (inside at.0 (span_at (with_spans spans T) at.0) (slice_get-get_or (with_spans spans T) at.0 (pos 0, pos 0)
              (omega (arith, low, long)))));
          satisfies = renumber-truth (place_in us) (values_at (map ν us)) (formula_of base parts)
              ∙ raw-same (λ u. values_at (map ν us) (place_in us u)) ν (formula_of base parts)
              (all-of-weaker _ _ (unknowns_of (formula_of base parts)) (λ u one. value-in-place ν us u one) all_used)
              ∙ satisfied base parts good σ holds;
        }

    -- a point tells that the conditions hold, for all numbers that it gives its names
    pub told_by : (p : List ℤ) → IsPointOf (finished spans parts) p → (σ : ℕ → ℤ)
        → ((u : ℕ) → u < base → IsUsed u → values_at p (place_in us u) ≡ σ u) → list_all (claim_true σ) parts ≡ true
    told_by p point σ names =
        holds_by base parts good σ (λ u. values_at p (place_in us u)) (sym
        (renumber-truth (place_in us) (values_at p) (formula_of base parts)) ∙ point.satisfies)
        (all-of-weaker _ _ (flat_map unknowns_of raws) (λ u one low. names u low one) raws_used)
        (λ d e is. all-weaker _ _ e.0.factors (λ u one low. names u low one) (pairs_used d e is))

    abbrev IsNamed : ℕ → Type 0
    IsNamed u = is_used base parts u ≡ true

    pub raws_named : AllOf IsNamed (flat_map unknowns_of raws)
    raws_named = all-of-weaker (λ u. is_one_of (flat_map unknowns_of raws) u ≡ true) IsNamed (flat_map unknowns_of raws)
        (λ u is. or_left _ _ (or_left _ _ is)) (all-self (flat_map unknowns_of raws) (flat_map unknowns_of raws) (λ u is. is))

    pub pairs_named : (d : ℕ) (e : Entry) → slice_get T d ≡ Some e → AllIn IsNamed e.0.factors
    pairs_named d e is = all-weaker (λ u. is_one_of (pair_unknowns T) u ≡ true) IsNamed e.0.factors
        (λ u one. or_left _ _ (or_right _ _ one))
        (pair-self T d e is)

    -- conditions hold alike for numbers that agree on the names that their formula has
    pub told_again : (σ τ : ℕ → ℤ) → ((u : ℕ) → u < base → is_used base parts u ≡ true → σ u ≡ τ u) → list_all (claim_true σ) parts ≡ true
        → list_all (claim_true τ) parts ≡ true
    told_again σ τ agree holds =
        holds_by base parts good τ (fill base σ T) (satisfied base parts good σ holds)
        (all-of-weaker IsNamed (λ u. u < base → fill base σ T u ≡ τ u) (flat_map unknowns_of raws)
        (λ u one low. fill-below T base σ u low ∙ agree u low one) raws_named)
        (λ d e is. all-weaker IsNamed (λ u. u < base → fill base σ T u ≡ τ u) e.0.factors
        (λ u one low. fill-below T base σ u low ∙ agree u low one) (pairs_named d e is))

-- what stands in a filtered list passes the test
pub by-used : (p : ℕ → Bool) (us : List ℕ) (u : ℕ) → is_one_of (filter p us) u ≡ true → p u ≡ true
by-used p us u one = let at = of_any (λ v. v == u) (filter p us) one in
    subst (λ v. p v ≡ true) ((Decides-eqb at.1 u).0 at.3) (of_filter p us at.0 at.1 at.2)

pub points_tell : PointsTell
points_tell spans parts good p point σ gives = told_by spans parts good p point σ
    (λ u low one. gives u low (by-used (is_used (length spans) parts) _ u one))
