-- What stands at a place of a list that is made of others.
use Rattle.std.proofs.Common.{arith, ◌≡◌, ◌∙◌, sym, ap, subst, refl, ◌⊎◌, inl, inr, ℕ, zero, suc, ◌+◌, ◌-◌, ◌<◌, ◌≤◌, List, [], ◌∷◌, ◌++◌}
use Rattle.std.proofs.Common.{length, take, drop, slice_get, slice_set, Some, Contains, replicate, reverse}
use Rattle.std.proofs.lemmas.Option.{same_Some, none-some, slice_get_within, slice_get-get_or, get_or_from_slice_get}
use Rattle.std.proofs.lemmas.List.{get_or-reverse, length-reverse}
use Rattle.ft_core.specs.laws.Places.{none-at}

pub of-single : {X : Type 0} (y x : X) (i : ℕ) → slice_get (y ∷ []) i ≡ Some x → (i ≡ 0) × (y ≡ x)
of-single y x zero is = (refl, same_Some y x is)
of-single y x (suc i) is = absurd (none-at i x is)

-- an element of two lists joined
pub of-append : {X : Type 0} (xs ys : List X) (i : ℕ) (x : X) → slice_get (xs ++ ys) i ≡ Some x
    → (slice_get xs i ≡ Some x) ⊎ ((j : ℕ) × (i ≡ length xs + j) × (slice_get ys j ≡ Some x))
of-append [] ys i x is = inr (i, omega arith, is)
of-append (a ∷ xs) ys zero x is = inl is
of-append (a ∷ xs) ys (suc i) x is = elim (of-append xs ys i x is) [ inl h ↦ inl h | inr (j, e, h) ↦ inr (j, omega arith, h) ]

on-right-at : {X : Type 0} (xs ys : List X) (i j : ℕ) (x : X) → i ≡ length xs + j → slice_get ys j ≡ Some x → slice_get (xs ++ ys) i
    ≡ Some x
on-right-at [] ys i j x e is = let same : i ≡ j = omega arith in subst (λ (k : ℕ). slice_get ys k ≡ Some x) (sym same) is
on-right-at (a ∷ xs) ys zero j x e is = absurd (omega arith)
on-right-at (a ∷ xs) ys (suc i) j x e is = on-right-at xs ys i j x (omega arith) is

pub on-right : {X : Type 0} (xs ys : List X) (j : ℕ) (x : X) → slice_get ys j ≡ Some x → slice_get (xs ++ ys) (length xs + j) ≡ Some x
on-right xs ys j x is = on-right-at xs ys (length xs + j) j x refl is

pub of-take : {X : Type 0} (n : ℕ) (xs : List X) (i : ℕ) (x : X) → slice_get (take n xs) i ≡ Some x → (i < n) × (slice_get xs i ≡ Some x)
of-take zero xs i x is = absurd (none-at i x is)
of-take (suc n) [] i x is = absurd (none-at i x is)
of-take (suc n) (a ∷ xs) zero x is = (omega arith, is)
of-take (suc n) (a ∷ xs) (suc i) x is = let h = of-take n xs i x is in (omega (arith, h.0), h.1)

pub in-take : {X : Type 0} (n : ℕ) (xs : List X) (i : ℕ) (x : X) → i < n → slice_get xs i ≡ Some x → slice_get (take n xs) i ≡ Some x
in-take zero xs i x less is = absurd (omega arith)
in-take (suc n) [] i x less is = is
in-take (suc n) (a ∷ xs) zero x less is = is
in-take (suc n) (a ∷ xs) (suc i) x less is = in-take n xs i x (omega arith) is

of-drop-at : {X : Type 0} (n : ℕ) (xs : List X) (i j : ℕ) (x : X) → j ≡ n + i → slice_get (drop n xs) i ≡ Some x → slice_get xs j ≡ Some x
of-drop-at zero xs i j x e is = let same : i ≡ j = omega arith in subst (λ (k : ℕ). slice_get xs k ≡ Some x) same is
of-drop-at (suc n) [] i j x e is = absurd (none-at i x is)
of-drop-at (suc n) (a ∷ xs) i zero x e is = absurd (omega arith)
of-drop-at (suc n) (a ∷ xs) i (suc j) x e is = of-drop-at n xs i j x (omega arith) is

pub of-drop : {X : Type 0} (n : ℕ) (xs : List X) (i : ℕ) (x : X) → slice_get (drop n xs) i ≡ Some x → slice_get xs (n + i) ≡ Some x
of-drop n xs i x is = of-drop-at n xs i (n + i) x refl is

-- a place from which a list is dropped stands in the rest
pub in-drop : {X : Type 0} (n : ℕ) (xs : List X) (j : ℕ) (x : X) → n ≤ j → slice_get xs j ≡ Some x → (i : ℕ) × (j ≡ n + i)
    × (slice_get (drop n xs) i ≡ Some x)
in-drop zero xs j x least is = (j, omega arith, is)
in-drop (suc n) [] j x least is = absurd (none-at j x is)
in-drop (suc n) (a ∷ xs) zero x least is = absurd (omega arith)
in-drop (suc n) (a ∷ xs) (suc j) x least is = let h = in-drop n xs j x (omega arith) is in (h.0, omega (arith, h.1), h.2)

-- an element of a list turned round
pub of-reverse : {X : Type 0} (xs : List X) (k : ℕ) (x : X) → slice_get (reverse xs) k ≡ Some x → slice_get xs (length xs - 1 - k) ≡ Some x
of-reverse xs k x is =
    let within = slice_get_within (reverse xs) k x is in
    let long = length-reverse xs in
    let inside : k < length xs = omega (arith, within, long) in
    slice_get-get_or xs (length xs - 1 - k) x (omega (arith, inside)) ∙ ap Some
    (sym (get_or-reverse xs k x inside) ∙ get_or_from_slice_get (reverse xs) k x x is)
