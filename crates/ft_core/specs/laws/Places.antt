-- What stands at a place of a list that is made of others, without a tactic: the crates above cite these too.
use Rattle.std.proofs.Common.{◌≡◌, ◌∙◌, sym, ap, subst, refl, ◌⊎◌, inl, inr, ℕ, zero, suc, ◌<◌, List, [], ◌∷◌, ◌++◌, length, get_or}
use Rattle.std.proofs.Common.{slice_get, slice_set, Some, Contains, replicate}
use Rattle.std.proofs.Math.Nat.{not-suc-le-zero, le_of_suc-le-suc, suc-ne-zero}
use Rattle.std.proofs.lemmas.Option.{same_Some, none-some, slice_get_within, slice_get_read, slice_get-get_or, get_or_from_slice_get}

pub one-at : {X : Type 0} (xs : List X) (i : ℕ) (x y : X) → slice_get xs i ≡ Some x → slice_get xs i ≡ Some y → x ≡ y
one-at xs i x y a b = same_Some x y (sym a ∙ b)

pub none-at : {X : Type 0} (i : ℕ) (x : X) → slice_get [] i ≡ Some x → ⊥
none-at i x is = none-some x is

pub of-replicate : {X : Type 0} (n i : ℕ) (x y : X) → slice_get (replicate n y) i ≡ Some x → y ≡ x
of-replicate zero i x y is = absurd (none-at i x is)
of-replicate (suc n) zero x y is = same_Some y x is
of-replicate (suc n) (suc i) x y is = of-replicate n i x y is

pub on-left : {X : Type 0} (xs ys : List X) (i : ℕ) (x : X) → slice_get xs i ≡ Some x → slice_get (xs ++ ys) i ≡ Some x
on-left [] ys i x is = absurd (none-at i x is)
on-left (a ∷ xs) ys zero x is = is
on-left (a ∷ xs) ys (suc i) x is = on-left xs ys i x is

-- an element of a list with one more at its end
pub of-push : {X : Type 0} (xs : List X) (y : X) (i : ℕ) (x : X) → slice_get (xs ++ y ∷ []) i ≡ Some x → (slice_get xs i ≡ Some x)
    ⊎ ((i ≡ length xs) × (y ≡ x))
of-push [] y zero x is = inr (refl, same_Some y x is)
of-push [] y (suc i) x is = absurd (none-at i x is)
of-push (a ∷ xs) y zero x is = inl is
of-push (a ∷ xs) y (suc i) x is = elim (of-push xs y i x is) [ inl h ↦ inl h | inr (e, h) ↦ inr (ap suc e, h) ]

pub at-end : {X : Type 0} (xs : List X) (y : X) → slice_get (xs ++ y ∷ []) (length xs) ≡ Some y
at-end [] y = refl
at-end (a ∷ xs) y = at-end xs y

-- an element of a list with one place set
pub of-set : {X : Type 0} (xs : List X) (i : ℕ) (y : X) (j : ℕ) (x : X) → slice_get (slice_set xs i y) j ≡ Some x → ((j ≡ i) × (y ≡ x))
    ⊎ ((j ≡ i → ⊥) × (slice_get xs j ≡ Some x))
of-set [] i y j x is = absurd (none-at j x is)
of-set (a ∷ xs) zero y zero x is = inl (refl, same_Some y x is)
of-set (a ∷ xs) zero y (suc j) x is = inr (λ e. suc-ne-zero j e, is)
of-set (a ∷ xs) (suc i) y zero x is = inr (λ e. suc-ne-zero i (sym e), is)
of-set (a ∷ xs) (suc i) y (suc j) x is = elim (of-set xs i y j x is) [
  | inl (e, h) ↦ inl (ap suc e, h)
  | inr (e, h)
      ↦ inr (λ f. e (ap below f), h)
]
  where
    below : ℕ → ℕ
    below zero = zero
    below (suc n) = n

pub set-here : {X : Type 0} (xs : List X) (i : ℕ) (y : X) → i < length xs → slice_get (slice_set xs i y) i ≡ Some y
set-here [] i y less = absurd (not-suc-le-zero less)
set-here (a ∷ xs) zero y less = refl
set-here (a ∷ xs) (suc i) y less = set-here xs i y (le_of_suc-le-suc less)

pub set-there : {X : Type 0} (xs : List X) (i : ℕ) (y : X) (j : ℕ) → (j ≡ i → ⊥) → slice_get (slice_set xs i y) j ≡ slice_get xs j
set-there [] i y j other = refl
set-there (a ∷ xs) zero y zero other = absurd (other refl)
set-there (a ∷ xs) zero y (suc j) other = refl
set-there (a ∷ xs) (suc i) y zero other = refl
set-there (a ∷ xs) (suc i) y (suc j) other = set-there xs i y j (λ e. other (ap suc e))

pub contained : {X : Type 0} (xs : List X) (i : ℕ) (x : X) → slice_get xs i ≡ Some x → Contains xs x
contained xs i x is = (i, slice_get_within xs i x is, get_or_from_slice_get xs i x x is)

pub place-of : {X : Type 0} (xs : List X) (x : X) → Contains xs x → (i : ℕ) × (slice_get xs i ≡ Some x)
place-of xs x h = (h.0, slice_get-get_or xs h.0 x h.1 ∙ ap Some h.2)

pub some-at : {X : Type 0} (xs : List X) (i : ℕ) → i < length xs → (x : X) × (slice_get xs i ≡ Some x)
some-at [] i less = absurd (not-suc-le-zero less)
some-at (a ∷ xs) zero less = (a, refl)
some-at (a ∷ xs) (suc i) less = some-at xs i (le_of_suc-le-suc less)

-- the item of a loop over a list stands at its place
pub item-there : {X : Type 0} (xs items : List X) (i : ℕ) (x : X) → items ≡ xs → i < length items → x ≡ get_or items i x → slice_get xs i
    ≡ Some x
item-there xs items i x same less is = subst (λ zs. slice_get zs i ≡ Some x) same (slice_get_read items (length items) i x refl less is)
