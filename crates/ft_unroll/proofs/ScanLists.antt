-- Lists of the places of some variables: what passes in all of them and in each.
use Rattle.std.proofs.Common.{◌≡◌, ◌∙◌, sym, ap, subst, refl, ℕ, zero, suc, ◌+◌, ◌<◌, ◌≤◌, Bool, true, false, ◌||◌, List, [], ◌∷◌, filter}
use Rattle.std.proofs.Common.{length, Some, slice_get, arith, ⊎_elim, true≢false, ◌⊎◌}
use Rattle.std.specs.Prelude.{slice_index_or}
use Rattle.std.specs.List.{list_all, list_any, range_with_len}
use Rattle.std.proofs.lemmas.Bool.{and_parts, cases_Bool, cases_lt, cond-true, cond-false}

-- what all places pass
pub each_place : (p : ℕ → Bool) (from n x : ℕ) → list_all p (range_with_len from n) ≡ true → from ≤ x → x < from + n → p x ≡ true
each_place p from zero x h low high = absurd (omega (arith, low, high))
each_place p from (suc n) x h low high =
    let both = and_parts (p from) (list_all p (range_with_len (from + 1) n)) h in ⊎_elim
    (λ less. each_place p (from + 1) n x both.1 (omega (arith, less)) (omega (arith, high)))
    (λ not_less. let same : from ≡ x = omega (arith, low, not_less) in subst (λ k. p k ≡ true) same both.0)
    (cases_lt from x)

-- what all of some places pass
pub each_chosen : (p q : ℕ → Bool) (from n x : ℕ) → list_all p (filter q (range_with_len from n)) ≡ true → from ≤ x → x < from + n
    → q x ≡ true → p x ≡ true
each_chosen p q from zero x h low high is = absurd (omega (arith, low, high))
each_chosen p q from (suc n) x h low high is = ⊎_elim
    (λ less. each_chosen p q (from + 1) n x (rest (cases_Bool (q from))) (omega (arith, less)) (omega (arith, high)) is)
    (λ not_less. let same : from ≡ x = omega (arith, low, not_less) in
    subst (λ k. p k ≡ true) same (here (subst (λ k. q k ≡ true) (sym same) is)))
    (cases_lt from x)
  where
    kept : q from ≡ true → filter q (range_with_len from (suc n)) ≡ from ∷ filter q (range_with_len (from + 1) n)
    kept yes_it = cond-true (q from) (from ∷ filter q (range_with_len (from + 1) n)) (filter q (range_with_len (from + 1) n)) yes_it

    here : q from ≡ true → p from ≡ true
    here yes_it = (and_parts (p from) (list_all p (filter q (range_with_len (from + 1) n))) (sym (ap (list_all p) (kept yes_it)) ∙ h)).0

    rest : (q from ≡ true) ⊎ (q from ≡ false) → list_all p (filter q (range_with_len (from + 1) n)) ≡ true
    rest of = ⊎_elim
        (λ yes_it. (and_parts (p from) (list_all p (filter q (range_with_len (from + 1) n))) (sym (ap (list_all p) (kept yes_it)) ∙ h)).1)
        (λ not_it. sym (ap (list_all p)
        (cond-false (q from) (from ∷ filter q (range_with_len (from + 1) n)) (filter q (range_with_len (from + 1) n)) not_it)) ∙ h)
        of

or_right : (b c : Bool) → c ≡ true → (b || c) ≡ true
or_right true c h = refl
or_right false c h = h

or_left : (b c : Bool) → b ≡ true → (b || c) ≡ true
or_left true c h = refl
or_left false c h = absurd (true≢false (sym h))

-- one of some places passes
pub any_chosen : (p q : ℕ → Bool) (from n x : ℕ) → from ≤ x → x < from + n → q x ≡ true → p x ≡ true
    → list_any p (filter q (range_with_len from n)) ≡ true
any_chosen p q from zero x low high is holds = absurd (omega (arith, low, high))
any_chosen p q from (suc n) x low high is holds = ⊎_elim
    (λ less. later (any_chosen p q (from + 1) n x (omega (arith, less)) (omega (arith, high)) is holds) (cases_Bool (q from)))
    (λ not_less. let same : x ≡ from = omega (arith, low, not_less) in
    here (subst (λ k. q k ≡ true) same is) (subst (λ k. p k ≡ true) same holds))
    (cases_lt from x)
  where
    here : q from ≡ true → p from ≡ true → list_any p (filter q (range_with_len from (suc n))) ≡ true
    here yes_it ok = ap (list_any p)
        (cond-true (q from) (from ∷ filter q (range_with_len (from + 1) n)) (filter q (range_with_len (from + 1) n)) yes_it)
        ∙ or_left (p from) (list_any p (filter q (range_with_len (from + 1) n))) ok

    later : list_any p (filter q (range_with_len (from + 1) n)) ≡ true → (q from ≡ true) ⊎ (q from ≡ false)
        → list_any p (filter q (range_with_len from (suc n))) ≡ true
    later more of = ⊎_elim
        (λ yes_it. ap (list_any p)
        (cond-true (q from) (from ∷ filter q (range_with_len (from + 1) n)) (filter q (range_with_len (from + 1) n)) yes_it)
        ∙ or_right (p from) (list_any p (filter q (range_with_len (from + 1) n))) more)
        (λ not_it. ap (list_any p)
        (cond-false (q from) (from ∷ filter q (range_with_len (from + 1) n)) (filter q (range_with_len (from + 1) n)) not_it) ∙ more)
        of

-- where some element passes there is one
pub some_passes : {A : Type 0} (p : A → Bool) (xs : List A) → list_any p xs ≡ true
    → (k : ℕ) × (a : A) × (slice_get xs k ≡ Some a) × (p a ≡ true)
some_passes p [] h = absurd (true≢false (sym h))
some_passes {A = A} p (x ∷ xs) h = ⊎_elim
    (λ here. (zero, x, refl, here))
    (λ not_here. let more = some_passes p xs (sym (ap (λ b. b || list_any p xs) not_here) ∙ h) in (suc more.0, more.1, more.2, more.3))
    (cases_Bool (p x))

-- lists of one length with the same at each place are one
pub same_list : {A : Type 0} (none : A) (xs ys : List A) → length xs ≡ length ys
    → ((t : ℕ) → t < length xs → slice_index_or xs t none ≡ slice_index_or ys t none) → xs ≡ ys
same_list none [] [] long same = refl
same_list none [] (y ∷ ys) long same = absurd (omega (arith, long))
same_list none (x ∷ xs) [] long same = absurd (omega (arith, long))
same_list none (x ∷ xs) (y ∷ ys) long same =
    let rest = same_list none xs ys (omega (arith, long)) (λ t l. same (suc t) (omega (arith, l))) in
    λ i. same zero (omega arith) i ∷ rest i
