-- What each element of a list passes, where the list is mapped, filtered or joined, without a tactic: the crates above cite these too.
use Rattle.std.proofs.Common.{◌≡◌, ◌∙◌, sym, ap, subst, refl, ⊎_elim, ℕ, zero, suc, Bool, true, List, [], ◌∷◌, ◌++◌, map, filter, Some}
use Rattle.std.proofs.Common.{slice_get}
use Rattle.std.specs.List.{list_all, flat_map}
use Rattle.std.proofs.lemmas.Bool.{and_from, cases_Bool, cond-true, cond-false}
use Rattle.std.proofs.lemmas.List.Folds.{list_all-map, list_all-append}
use Rattle.std.proofs.lemmas.Option.{none-some, same_Some}
use Rattle.ft_core.specs.laws.Lists.{all_pass, from_one}
use Rattle.ft_core.specs.laws.Places.{contained, place-of}

pub every : {A : Type 0} (p : A → Bool) (xs : List A) → ((k : ℕ) (a : A) → slice_get xs k ≡ Some a → p a ≡ true) → list_all p xs ≡ true
every p [] h = refl
every p (x ∷ xs) h = and_from (p x) (list_all p xs) (h zero x refl) (every p xs (λ k a e. h (suc k) a e))

pub at_place : {A : Type 0} (p : A → Bool) (xs : List A) → list_all p xs ≡ true → (k : ℕ) (a : A) → slice_get xs k ≡ Some a → p a ≡ true
at_place p xs h k a e = all_pass p xs h a (contained xs k a e)

pub every_image : {A B : Type 0} (p : B → Bool) (f : A → B) (xs : List A) → ((k : ℕ) (a : A) → slice_get xs k ≡ Some a → p (f a) ≡ true)
    → list_all p (map f xs) ≡ true
every_image p f xs h = list_all-map p f xs ∙ every (λ a. p (f a)) xs h

pub both_lists : {A : Type 0} (p : A → Bool) (xs ys : List A) → list_all p xs ≡ true → list_all p ys ≡ true → list_all p (xs ++ ys) ≡ true
both_lists p xs ys a b = list_all-append p xs ys ∙ and_from (list_all p xs) (list_all p ys) a b

pub of_filter : {A : Type 0} (p : A → Bool) (xs : List A) (k : ℕ) (a : A) → slice_get (filter p xs) k ≡ Some a → p a ≡ true
of_filter p [] k a e = absurd (none-some a e)
of_filter {A = A} p (x ∷ xs) k a e = ⊎_elim
    (λ in_it. kept (of_filter p xs) k in_it (sym (ap (λ ys. slice_get ys k) (cond-true (p x) (x ∷ filter p xs) (filter p xs) in_it)) ∙ e))
    (λ out_of_it. of_filter p xs k a (sym (ap (λ ys. slice_get ys k) (cond-false (p x) (x ∷ filter p xs) (filter p xs) out_of_it)) ∙ e))
    (cases_Bool (p x))
  where
    kept : ((k : ℕ) (a : A) → slice_get (filter p xs) k ≡ Some a → p a ≡ true) → (k : ℕ) → p x ≡ true → slice_get (x ∷ filter p xs) k
        ≡ Some a → p a ≡ true
    kept rest zero is e = subst (λ y. p y ≡ true) (same_Some x a e) is
    kept rest (suc k) is e = rest k a e

-- an element of the images of several, joined
pub of_flat : {A B : Type 0} (f : A → List B) (xs : List A) (k : ℕ) (b : B) → slice_get (flat_map f xs) k ≡ Some b
    → (i : ℕ) × (a : A) × (j : ℕ) × (slice_get xs i ≡ Some a) × (slice_get (f a) j ≡ Some b)
of_flat f xs k b e =
    let at = from_one f xs b (contained (flat_map f xs) k b e) in
    let inside = place-of (f at.1) b at.3 in (at.0, at.1, inside.0, at.2, inside.1)
