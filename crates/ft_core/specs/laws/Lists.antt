-- What each element of a list has where all pass a test, and lists that are mapped and joined, without a tactic: the crates above cite
-- these too.
use Rattle.std.proofs.Common.{◌≡◌, sym, subst, refl, ⊎_elim, ℕ, zero, suc, Bool, true, List, [], ◌∷◌, map, slice_get, Some}
use Rattle.std.specs.List.{Contains, list_all, flat_map}
use Rattle.std.proofs.Math.Nat.{not-suc-le-zero, le_of_suc-le-suc}
use Rattle.std.proofs.lemmas.Bool.{and_parts}
use Rattle.std.proofs.lemmas.List.Elements.{Contains-append_cases, Contains-append_left, Contains-append_right}
use Rattle.std.proofs.lemmas.Option.{none-some, same_Some}

pub all_pass : {A : Type 0} (test : A → Bool) (xs : List A) → list_all test xs ≡ true → (a : A) → Contains xs a → test a ≡ true
all_pass test [] h a c = absurd (not-suc-le-zero c.1)
all_pass test (x ∷ xs) h a (zero, below, is) = subst (λ z. test z ≡ true) is (and_parts (test x) (list_all test xs) h).0
all_pass test (x ∷ xs) h a (suc k, below, is) = all_pass test xs (and_parts (test x) (list_all test xs) h).1 a
    (k, le_of_suc-le-suc below, is)

-- an element of a mapped list is the image of one
pub mapped : {A B : Type 0} (f : A → B) (xs : List A) (k : ℕ) (b : B) → slice_get (map f xs) k ≡ Some b → (a : A)
    × (slice_get xs k ≡ Some a) × (f a ≡ b)
mapped f [] k b e = absurd (none-some b e)
mapped f (x ∷ xs) zero b e = (x, refl, same_Some (f x) b e)
mapped f (x ∷ xs) (suc k) b e = mapped f xs k b e

-- what stands in the image of an element stands in the images joined
pub in_all : {A B : Type 0} (f : A → List B) (xs : List A) (k : ℕ) (a : A) (b : B) → slice_get xs k ≡ Some a → Contains (f a) b
    → Contains (flat_map f xs) b
in_all f [] k a b e c = absurd (none-some a e)
in_all f (x ∷ xs) zero a b e c = Contains-append_left (f x) (flat_map f xs) b (subst (λ y. Contains (f y) b) (sym (same_Some x a e)) c)
in_all f (x ∷ xs) (suc k) a b e c = Contains-append_right (f x) (flat_map f xs) b (in_all f xs k a b e c)

-- and the other way round
pub from_one : {A B : Type 0} (f : A → List B) (xs : List A) (b : B) → Contains (flat_map f xs) b → (k : ℕ) × (a : A)
    × (slice_get xs k ≡ Some a) × Contains (f a) b
from_one f [] b c = absurd (not-suc-le-zero c.1)
from_one f (x ∷ xs) b c = ⊎_elim (λ l. (0, x, refl, l)) (λ r. let at = from_one f xs b r in (suc at.0, at.1, at.2, at.3))
    (Contains-append_cases (f x) (flat_map f xs) b c)
