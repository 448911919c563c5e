-- Tests of the elements of a list, by their places.
use Rattle.std.proofs.Common.{◌≡◌, ◌∙◌, sym, ap, subst, refl, ℕ, zero, suc, Bool, true, false, ◌||◌, List, [], ◌∷◌, ◌++◌, map, filter, Some}
use Rattle.std.proofs.Common.{slice_get, ⊎_elim, true≢false, ◌⊎◌, inl, inr, length, ◌+◌, arith}
use Rattle.std.specs.List.{Contains, list_all, list_any, flat_map, zip}
use Rattle.std.proofs.lemmas.List.Elements.{Contains-append_left, Contains-append_right}
use Rattle.std.proofs.lemmas.Bool.{and_parts, and_from, cases_Bool, cond-true, cond-false}
use Rattle.std.proofs.lemmas.List.Folds.{list_all-map, list_all-append}
use Rattle.std.proofs.lemmas.Option.{none-some, same_Some}

pub every : {A : Type 0} (p : A → Bool) (xs : List A) → ((k : ℕ) (a : A) → slice_get xs k ≡ Some a → p a ≡ true) → list_all p xs ≡ true
every p [] h = refl
every p (x ∷ xs) h = and_from (p x) (list_all p xs) (h zero x refl) (every p xs (λ k a e. h (suc k) a e))

pub at_place : {A : Type 0} (p : A → Bool) (xs : List A) → list_all p xs ≡ true → (k : ℕ) (a : A) → slice_get xs k ≡ Some a → p a ≡ true
at_place p [] h k a e = absurd (none-some a e)
at_place p (x ∷ xs) h zero a e = subst (λ y. p y ≡ true) (same_Some x a e) (and_parts (p x) (list_all p xs) h).0
at_place p (x ∷ xs) h (suc k) a e = at_place p xs (and_parts (p x) (list_all p xs) h).1 k a e

pub every_image : {A B : Type 0} (p : B → Bool) (f : A → B) (xs : List A) → ((k : ℕ) (a : A) → slice_get xs k ≡ Some a → p (f a) ≡ true)
    → list_all p (map f xs) ≡ true
every_image p f xs h = list_all-map p f xs ∙ every (λ a. p (f a)) xs h

pub both_lists : {A : Type 0} (p : A → Bool) (xs ys : List A) → list_all p xs ≡ true → list_all p ys ≡ true → list_all p (xs ++ ys) ≡ true
both_lists p xs ys a b = list_all-append p xs ys ∙ and_from (list_all p xs) (list_all p ys) a b

pub of_filter : {A : Type 0} (p : A → Bool) (xs : List A) (k : ℕ) (a : A) → slice_get (filter p xs) k ≡ Some a → p a ≡ true
of_filter p [] k a e = absurd (none-some a e)
of_filter {A = A} p (x ∷ xs) k a e = ⊎_elim
    (λ in_it. kept (of_filter p xs) k in_it (sym (ap (λ ys. slice_get ys k) (cond-true (p x) (x ∷ filter p xs) (filter p xs) in_it)) ∙ e))
    (λ out_of_it. of_filter p xs k a (sym (ap (λ ys. slice_get ys k) (cond-false (p x) (x ∷ filter p xs) (filter p xs) out_of_it)) ∙ e))
    (cases_Bool (p x))
  where
    kept : ((k : ℕ) (a : A) → slice_get (filter p xs) k ≡ Some a → p a ≡ true) → (k : ℕ) → p x ≡ true → slice_get (x ∷ filter p xs) k
        ≡ Some a → p a ≡ true
    kept rest zero is e = subst (λ y. p y ≡ true) (same_Some x a e) is
    kept rest (suc k) is e = rest k a e

-- where an element of a filtered list stands in the whole one
pub of-filtered : {A : Type 0} (p : A → Bool) (xs : List A) (k : ℕ) (a : A) → slice_get (filter p xs) k ≡ Some a → (i : ℕ)
    × (slice_get xs i ≡ Some a)
of-filtered p [] k a e = absurd (none-some a e)
of-filtered {A = A} p (x ∷ xs) k a e = ⊎_elim
    (λ in_it. kept (of-filtered p xs) k (sym (ap (λ ys. slice_get ys k) (cond-true (p x) (x ∷ filter p xs) (filter p xs) in_it)) ∙ e))
    (λ out_of_it. let more = of-filtered p xs k a (sym (ap (λ ys. slice_get ys k)
    (cond-false (p x) (x ∷ filter p xs) (filter p xs) out_of_it)) ∙ e) in (suc more.0, more.1))
    (cases_Bool (p x))
  where
    kept : ((k : ℕ) (a : A) → slice_get (filter p xs) k ≡ Some a → (i : ℕ) × (slice_get xs i ≡ Some a)) → (k : ℕ)
        → slice_get (x ∷ filter p xs) k ≡ Some a
        → (i : ℕ) × (slice_get (x ∷ xs) i ≡ Some a)
    kept rest zero e = (zero, e)
    kept rest (suc k) e = let more = rest k a e in (suc more.0, more.1)

-- an element that passes stands in the filtered list
pub in-filtered : {A : Type 0} (p : A → Bool) (xs : List A) (k : ℕ) (a : A) → slice_get xs k ≡ Some a → p a ≡ true → (i : ℕ)
    × (slice_get (filter p xs) i ≡ Some a)
in-filtered p [] k a e is = absurd (none-some a e)
in-filtered p (x ∷ xs) zero a e is =
    let here : p x ≡ true = ap p (same_Some x a e) ∙ is in
    (zero, ap (λ ys. slice_get ys zero) (cond-true (p x) (x ∷ filter p xs) (filter p xs) here) ∙ e)
in-filtered p (x ∷ xs) (suc k) a e is =
    let more = in-filtered p xs k a e is in ⊎_elim
    (λ in_it. (suc more.0, ap (λ ys. slice_get ys (suc more.0)) (cond-true (p x) (x ∷ filter p xs) (filter p xs) in_it) ∙ more.1))
    (λ out_of_it. (more.0, ap (λ ys. slice_get ys more.0) (cond-false (p x) (x ∷ filter p xs) (filter p xs) out_of_it) ∙ more.1))
    (cases_Bool (p x))

-- one that passes, where some do
pub of_any : {A : Type 0} (p : A → Bool) (xs : List A) → list_any p xs ≡ true → (k : ℕ) × (a : A) × (slice_get xs k ≡ Some a) × (p a ≡ true)
of_any p [] h = absurd (true≢false (sym h))
of_any p (x ∷ xs) h = ⊎_elim
    (λ is. (zero, x, refl, is))
    (λ isnt. let more = of_any p xs (sym (ap (λ b. b || list_any p xs) isnt) ∙ h) in (suc more.0, more.1, more.2, more.3))
    (cases_Bool (p x))

pub some_of : {A : Type 0} (p : A → Bool) (xs : List A) (k : ℕ) (a : A) → slice_get xs k ≡ Some a → p a ≡ true → list_any p xs ≡ true
some_of p [] k a e is = absurd (none-some a e)
some_of p (x ∷ xs) zero a e is = ap (λ b. b || list_any p xs) (ap p (same_Some x a e) ∙ is)
some_of p (x ∷ xs) (suc k) a e is = ap (λ b. p x || b) (some_of p xs k a e is) ∙ or_true (p x)
  where
    or_true : (b : Bool) → (b || true) ≡ true
    or_true true = refl
    or_true false = refl

-- an element of two lists joined
pub of-append : {X : Type 0} (xs ys : List X) (i : ℕ) (x : X) → slice_get (xs ++ ys) i ≡ Some x
    → (slice_get xs i ≡ Some x) ⊎ ((j : ℕ) × (i ≡ length xs + j) × (slice_get ys j ≡ Some x))
of-append [] ys i x is = inr (i, omega arith, is)
of-append (a ∷ xs) ys zero x is = inl is
of-append (a ∷ xs) ys (suc i) x is = elim (of-append xs ys i x is) [ inl h ↦ inl h | inr (j, e, h) ↦ inr (j, omega arith, h) ]

-- what one of the items has, all have together
pub in_all : {A B : Type 0} (f : A → List B) (xs : List A) (k : ℕ) (a : A) (b : B) → slice_get xs k ≡ Some a → Contains (f a) b
    → Contains (flat_map f xs) b
in_all f [] k a b e c = absurd (none-some a e)
in_all f (x ∷ xs) zero a b e c = Contains-append_left (f x) (flat_map f xs) b (subst (λ y. Contains (f y) b) (sym (same_Some x a e)) c)
in_all f (x ∷ xs) (suc k) a b e c = Contains-append_right (f x) (flat_map f xs) b (in_all f xs k a b e c)

pub of-mapped : {A B : Type 0} (f : A → B) (xs : List A) (i : ℕ) (b : B) → slice_get (map f xs) i ≡ Some b → (a : A)
    × (slice_get xs i ≡ Some a) × (f a ≡ b)
of-mapped f [] i b e = absurd (none-some b e)
of-mapped f (x ∷ xs) zero b e = (x, refl, same_Some (f x) b e)
of-mapped f (x ∷ xs) (suc i) b e = of-mapped f xs i b e

pub mapped-at : {A B : Type 0} (f : A → B) (xs : List A) (i : ℕ) (a : A) → slice_get xs i ≡ Some a → slice_get (map f xs) i ≡ Some (f a)
mapped-at f [] i a e = absurd (none-some a e)
mapped-at f (x ∷ xs) zero a e = ap (λ y. Some (f y)) (same_Some x a e)
mapped-at f (x ∷ xs) (suc i) a e = mapped-at f xs i a e

pub zip-at : {A B : Type 0} (xs : List A) (ys : List B) (k : ℕ) (p : A × B) → slice_get (zip xs ys) k ≡ Some p → (slice_get xs k ≡ Some p.0)
    × (slice_get ys k ≡ Some p.1)
zip-at [] ys k p e = absurd (none-some p e)
zip-at (x ∷ xs) [] k p e = absurd (none-some p e)
zip-at (x ∷ xs) (y ∷ ys) zero p e = let same = same_Some (x, y) p e in (ap (λ q. Some q.0) same, ap (λ q. Some q.1) same)
zip-at (x ∷ xs) (y ∷ ys) (suc k) p e = zip-at xs ys k p e
