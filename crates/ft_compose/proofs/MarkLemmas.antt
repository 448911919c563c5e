-- Marks of names, and which parts have a name that is marked.
use Rattle.std.proofs.Common.{◌≡◌, ◌∙◌, sym, ap, subst, refl, ℕ, zero, suc, ◌+◌, ◌<◌, ◌⊎◌, inl, inr, Bool, true, false, ◌||◌}
use Rattle.std.proofs.Common.{List, [], ◌∷◌, ◌++◌, length, take, filter, Some, slice_get, slice_set, arith}
use Rattle.std.proofs.Common.{⊎_elim}
use Rattle.std.specs.Prelude.{nat_lt, ◌==◌, slice_index_or}
use Rattle.std.specs.List.{flat_map, list_any, range_with_len}
use Rattle.std.proofs.lemmas.Bool.{cases_Bool, cond_both, ltb-true, ltb-false, eqb-true, eq-eqb, true≢false}
use Rattle.std.proofs.lemmas.List.{append-nil, length-set, take_more}
use Rattle.std.proofs.lemmas.List.Concat.{flat_map-append}
use Rattle.std.proofs.lemmas.Option.{none-some, same_Some, get_or_from_slice_get}
use Rattle.ft_core.specs.laws.Places.{of-set, set-here, set-there}
use Rattle.ft_claims.specs.declared.claim.Claim.{Claim}
use Rattle.ft_claims.specs.meaning.Areas.{is_used, marked_at, with_marks}
use Rattle.ft_oblige.specs.meaning.Linked.{HasName}
use Rattle.ft_compose.specs.building.Rounds.{belongs, is_reached}

one-long : (marks : List Bool) (v : ℕ) → length (marked_at marks v) ≡ length marks
one-long marks v = cond_both (nat_lt v (length marks)) (slice_set marks v true) marks (λ ms. length ms ≡ length marks)
    (λ low. length-set marks v true) (λ high. refl)

pub marks-long : (us : List ℕ) (marks : List Bool) → length (with_marks marks us) ≡ length marks
marks-long [] marks = refl
marks-long (u ∷ us) marks = marks-long us (marked_at marks u) ∙ one-long marks u

pub marks-append : (us vs : List ℕ) (marks : List Bool) → with_marks marks (us ++ vs) ≡ with_marks (with_marks marks us) vs
marks-append [] vs marks = refl
marks-append (u ∷ us) vs marks = marks-append us vs (marked_at marks u)

pub reach-more : (marks mid now : List Bool) (us : List ℕ) (i d : ℕ) → i < length us → mid ≡ with_marks marks (take i us)
    → now ≡ marked_at mid (slice_index_or us i d) → now ≡ with_marks marks (take (i + 1) us)
reach-more marks mid now us i d within before here =
    let u = slice_index_or us i d in
    here ∙ ap (λ ms. marked_at ms u) before ∙ sym (marks-append (take i us) (u ∷ []) marks)
    ∙ ap (with_marks marks) (sym (take_more us i d within))

pub reach-next : {X : Type 0} (names : X → List ℕ) (marks mid now : List Bool) (xs : List X) (i : ℕ) (x : X) → i < length xs
    → x ≡ slice_index_or xs i x → mid ≡ with_marks marks (flat_map names (take i xs)) → now ≡ with_marks mid (names x)
    → now ≡ with_marks marks (flat_map names (take (i + 1) xs))
reach-next {X} names marks mid now xs i x within is before here =
    here ∙ ap (λ ms. with_marks ms (names x)) before ∙ sym (marks-append (flat_map names (take i xs)) (names x) marks)
    ∙ ap (with_marks marks) (sym more)
  where
    more : flat_map names (take (i + 1) xs) ≡ flat_map names (take i xs) ++ names x
    more = ap (flat_map names) (take_more xs i x within ∙ ap (λ (y : X). take i xs ++ y ∷ []) (sym is))
        ∙ flat_map-append names (take i xs) (x ∷ []) ∙ ap (λ l. flat_map names (take i xs) ++ l) (append-nil (names x))

-- what is marked stays so
one-stays : (marks : List Bool) (v u : ℕ) → slice_get marks u ≡ Some true → slice_get (marked_at marks v) u ≡ Some true
one-stays marks v u at = cond_both (nat_lt v (length marks)) (slice_set marks v true) marks (λ ms. slice_get ms u ≡ Some true)
    (λ low. ⊎_elim
    (λ here. subst (λ w. slice_get (slice_set marks v true) w ≡ Some true) (sym (eqb-true u v here))
    (set-here marks v true (ltb-true v (length marks) low)))
    (λ other. set-there marks v true u (λ e. true≢false (sym (eq-eqb u v e) ∙ other)) ∙ at)
    (cases_Bool (u == v)))
    (λ high. at)

pub stays-marked : (us : List ℕ) (marks : List Bool) (u : ℕ) → slice_get marks u ≡ Some true → slice_get (with_marks marks us) u ≡ Some true
stays-marked [] marks u at = at
stays-marked (v ∷ us) marks u at = stays-marked us (marked_at marks v) u (one-stays marks v u at)

-- what is marked was so, or is one of the list
one-was : (marks : List Bool) (v u : ℕ) → slice_get (marked_at marks v) u ≡ Some true → (slice_get marks u ≡ Some true) ⊎ (u ≡ v)
one-was marks v u = cond_both (nat_lt v (length marks)) (slice_set marks v true) marks
    (λ ms. slice_get ms u ≡ Some true → (slice_get marks u ≡ Some true) ⊎ (u ≡ v))
    (λ low at. elim (of-set marks v true u true at) [ inl (e, f) ↦ inr e | inr (e, f) ↦ inl f ])
    (λ high at. inl at)

pub was-marked : (us : List ℕ) (marks : List Bool) (u : ℕ) → slice_get (with_marks marks us) u ≡ Some true
    → (slice_get marks u ≡ Some true) ⊎ ((k : ℕ) × (slice_get us k ≡ Some u))
was-marked [] marks u at = inl at
was-marked (v ∷ us) marks u at = ⊎_elim
    (λ before. elim (one-was marks v u before) [ inl e ↦ inl e | inr e ↦ inr (zero, ap Some (sym e)) ])
    (λ later. inr (suc later.0, later.1))
    (was-marked us (marked_at marks v) u at)

-- one of the list that has a place is marked
one-gets : (marks : List Bool) (u : ℕ) → u < length marks → slice_get (marked_at marks u) u ≡ Some true
one-gets marks u l = cond_both (nat_lt u (length marks)) (slice_set marks u true) marks (λ ms. slice_get ms u ≡ Some true)
    (λ low. set-here marks u true l) (λ high. let g = ltb-false u (length marks) high in absurd (omega (arith, l, g)))

pub gets-marked : (us : List ℕ) (marks : List Bool) (k u : ℕ) → slice_get us k ≡ Some u → u < length marks
    → slice_get (with_marks marks us) u ≡ Some true
gets-marked [] marks k u at l = absurd (none-some u at)
gets-marked (v ∷ us) marks zero u at l = stays-marked us (marked_at marks v) u
    (subst (λ w. slice_get (marked_at marks w) u ≡ Some true) (sym (same_Some v u at)) (one-gets marks u l))
gets-marked (v ∷ us) marks (suc k) u at l = gets-marked us (marked_at marks v) k u at (subst (λ n. u < n) (sym (one-long marks v)) l)

-- a mark that is read
read-mark : (marks : List Bool) (u : ℕ) → slice_index_or marks u false ≡ true → slice_get marks u ≡ Some true
read-mark [] u is = absurd (true≢false (sym is))
read-mark (m ∷ marks) zero is = ap Some is
read-mark (m ∷ marks) (suc u) is = read-mark marks u is

-- some name of these is reached
abbrev pub IsMet : List Bool → List ℕ → Type 0
IsMet reached names = (k u : ℕ) × (slice_get names k ≡ Some u) × (slice_get reached u ≡ Some true)

pub met : (reached : List Bool) (names : List ℕ) → list_any (is_reached reached) names ≡ true → IsMet reached names
met reached [] is = absurd (true≢false (sym is))
met reached (v ∷ names) is = ⊎_elim
    (λ here. (zero, v, refl, read-mark reached v here))
    (λ other. let more = met reached names (subst (λ b. (b || list_any (is_reached reached) names) ≡ true) other is) in
    (suc more.0, more.1, more.2, more.3))
    (cases_Bool (is_reached reached v))

or-right : (a b : Bool) → b ≡ true → (a || b) ≡ true
or-right true b e = refl
or-right false b e = e

pub meets : (reached : List Bool) (names : List ℕ) (k u : ℕ) → slice_get names k ≡ Some u → slice_get reached u ≡ Some true
    → list_any (is_reached reached) names ≡ true
meets reached [] k u at is = absurd (none-some u at)
meets reached (v ∷ names) zero u at is = ap (λ b. b || list_any (is_reached reached) names)
    (get_or_from_slice_get reached v true false (subst (λ w. slice_get reached w ≡ Some true) (sym (same_Some v u at)) is))
meets reached (v ∷ names) (suc k) u at is = or-right (is_reached reached v) (list_any (is_reached reached) names)
    (meets reached names k u at is)

-- a part belongs where it has a name that is reached, and where it has none
pub belongs-met : (reached : List Bool) (names : List ℕ) (k u : ℕ) → slice_get names k ≡ Some u → slice_get reached u ≡ Some true
    → belongs reached names ≡ true
belongs-met reached [] k u at is = refl
belongs-met reached (v ∷ names) k u at is = meets reached (v ∷ names) k u at is

pub belongs-bare : (reached : List Bool) (names : List ℕ) → names ≡ [] → belongs reached names ≡ true
belongs-bare reached names none = ap (belongs reached) none

pub why-belongs : (reached : List Bool) (names : List ℕ) → belongs reached names ≡ true → (names ≡ []) ⊎ IsMet reached names
why-belongs reached [] is = inl refl
why-belongs reached (v ∷ names) is = inr (met reached (v ∷ names) is)

-- names are below their number
in-range : (p : ℕ → Bool) (from n k u : ℕ) → slice_get (filter p (range_with_len from n)) k ≡ Some u → u < from + n
in-range p from zero k u = λ at. absurd (none-some u at)
in-range p from (suc n) k u = cond_both (p from) (from ∷ filter p (range_with_len (from + 1) n)) (filter p (range_with_len (from + 1) n))
    (λ us. slice_get us k ≡ Some u → u < from + suc n)
    (λ kept. first k (λ j at. in-range p (from + 1) n j u at))
    (λ dropped at. let l = in-range p (from + 1) n k u at in omega (arith, l))
  where
    first : (k : ℕ) → ((j : ℕ) → slice_get (filter p (range_with_len (from + 1) n)) j ≡ Some u → u < from + 1 + n)
        → slice_get (from ∷ filter p (range_with_len (from + 1) n)) k ≡ Some u → u < from + suc n
    first zero more at = let e = same_Some from u at in omega (arith, e)
    first (suc k) more at = let l = more k at in omega (arith, l)

pub name-bound : (base : ℕ) (c : Claim) (u : ℕ) → HasName base c u → u < base
name-bound base c u has = let l = in-range (is_used base (c ∷ [])) 0 base has.0 u has.1 in omega (arith, l)
