-- Tests of the elements of a list with their places that compute, and what it says that they pass.
use Rattle.std.proofs.Common.{◌≡◌, subst, refl, ℕ, zero, suc, ◌<◌, Bool, true, false, not, ◌&&◌, ◌||◌, List, [], ◌∷◌, length, slice_get}
use Rattle.std.proofs.Common.{Some, arith}
use Rattle.std.proofs.lemmas.Bool.{and_parts}
use Rattle.std.proofs.lemmas.Option.{none-some, same_Some}

-- whether a test passes at each element of a list, with its place
abbrev pub each : {A : Type 0} → (ℕ → A → Bool) → List A → Bool
each test [] = true
each test (a ∷ xs) = test 0 a && each (λ k. test (suc k)) xs

pub passes : {A : Type 0} (test : ℕ → A → Bool) (xs : List A) → each test xs ≡ true → (k : ℕ) (a : A) → slice_get xs k ≡ Some a
    → test k a ≡ true
passes test [] h k a e = absurd (none-some a e)
passes test (b ∷ xs) h zero a e = subst (λ c. test 0 c ≡ true) (same_Some b a e) (and_parts (test 0 b) (each (λ k. test (suc k)) xs) h).0
passes test (b ∷ xs) h (suc k) a e = passes (λ k. test (suc k)) xs (and_parts (test 0 b) (each (λ k. test (suc k)) xs) h).1 k a e

pub passes_at : {A : Type 0} (test : ℕ → Bool) (xs : List A) → each (λ k a. test k) xs ≡ true → (k : ℕ) → k < length xs → test k ≡ true
passes_at test [] h k below = absurd (omega (arith, below))
passes_at test (b ∷ xs) h zero below = (and_parts (test 0) (each (λ k a. test (suc k)) xs) h).0
passes_at test (b ∷ xs) h (suc k) below = passes_at (λ k. test (suc k)) xs (and_parts (test 0) (each (λ k a. test (suc k)) xs) h).1 k
    (omega (arith, below))

-- what holds or else is not asked, and is asked, holds
pub asked : (a b : Bool) → (a || not b) ≡ true → b ≡ true → a ≡ true
asked true b h e = refl
asked false true h e = h
asked false false h e = e
