-- Pieces for the pairs of two lists, one after another.
use Rattle.std.proofs.Common.{◌≡◌, ◌∙◌, ap, sym, refl, ℕ, zero, suc, ◌+◌, ◌≤◌, List, [], ◌∷◌, ◌++◌, length, take, arith}
use Rattle.std.proofs.Common.{append_assoc, append-nil}
use Rattle.std.specs.Prelude.{Some, slice_get, min}
use Rattle.std.specs.List.{flat_map, zip}
use Rattle.std.proofs.lemmas.Option.{none-some, same_Some}

module _ {A B : Type 0} (piece : A × B → List ℕ) where
  pair-after : (xs : List A) (ys : List B) (i : ℕ) (a : A) (b : B) → slice_get xs i ≡ Some a → slice_get ys i ≡ Some b
      → flat_map piece (take (suc i) (zip xs ys)) ≡ flat_map piece (take i (zip xs ys)) ++ piece (a, b)
  pair-after [] ys i a b is is' = absurd (none-some a is)
  pair-after (x ∷ xs) [] i a b is is' = absurd (none-some b is')
  pair-after (x ∷ xs) (y ∷ ys) zero a b is is' = append-nil (piece (x, y)) ∙ (λ i. piece (same_Some x a is i, same_Some y b is' i))
  pair-after (x ∷ xs) (y ∷ ys) (suc i) a b is is' =
      ap (λ (l : List ℕ). piece (x, y) ++ l) (pair-after xs ys i a b is is')
      ∙ sym (append_assoc (piece (x, y)) (flat_map piece (take i (zip xs ys))) (piece (a, b)))

  all-pairs : (xs : List A) (ys : List B) (i : ℕ) → min (length xs) (length ys) ≤ i → take i (zip xs ys) ≡ zip xs ys
  all-pairs [] ys zero least = refl
  all-pairs [] ys (suc i) least = refl
  all-pairs (x ∷ xs) [] zero least = refl
  all-pairs (x ∷ xs) [] (suc i) least = refl
  all-pairs (x ∷ xs) (y ∷ ys) zero least = absurd (omega (arith, least))
  all-pairs (x ∷ xs) (y ∷ ys) (suc i) least = ap (λ (l : List (A × B)). (x, y) ∷ l) (all-pairs xs ys i (omega (arith, least)))

  -- one piece more at the end of a text
  pub pieces-next : (xs : List A) (ys : List B) (i : ℕ) (a : A) (b : B) (old mid new : List ℕ) → slice_get xs i ≡ Some a
      → slice_get ys i ≡ Some b
      → mid ≡ old ++ flat_map piece (take i (zip xs ys)) → new ≡ mid ++ piece (a, b)
      → new ≡ old ++ flat_map piece (take (i + 1) (zip xs ys))
  pieces-next xs ys i a b old mid new is is' before here =
      let more : i + 1 ≡ suc i = omega arith in
      here ∙ ap (λ text. text ++ piece (a, b)) before
      ∙ append_assoc old (flat_map piece (take i (zip xs ys))) (piece (a, b))
      ∙ ap (λ text. old ++ text) (sym (ap (λ (n : ℕ). flat_map piece (take n (zip xs ys))) more ∙ pair-after xs ys i a b is is'))

  -- all of them
  pub pieces-all : (xs : List A) (ys : List B) (i : ℕ) (old new : List ℕ) → min (length xs) (length ys) ≤ i
      → new ≡ old ++ flat_map piece (take i (zip xs ys)) → new ≡ old ++ flat_map piece (zip xs ys)
  pieces-all xs ys i old new least so_far = so_far ∙ ap (λ pairs. old ++ flat_map piece pairs) (all-pairs xs ys i least)
