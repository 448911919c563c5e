-- The first fault of lists put together, and of a list that a loop goes through.
use Rattle.std.proofs.Common.{◌≡◌, ◌∙◌, sym, ap, refl, ℕ, ◌+◌, ◌<◌, length, List, [], ◌∷◌, ◌++◌, take, drop, map, Option, Some, None}
use Rattle.std.specs.Prelude.{Err, slice_index_or}
use Rattle.std.specs.List.{flat_map}
use Rattle.std.specs.Option.{option_or}
use Rattle.std.proofs.lemmas.List.{take_more, take-append-drop}
use Rattle.ft_names.specs.declared.stop.Stop.{Stop}
use Rattle.ft_names.specs.declared.stop.Stop.TheVariants.{Fault, NoMemory}
use Rattle.ft_names.specs.meaning.First.{Answers, first_of}

pub option_or_assoc : {Y : Type 0} (a b c : Option Y) → option_or (option_or a b) c ≡ option_or a (option_or b c)
option_or_assoc None b c = refl
option_or_assoc (Some y) b c = refl

pub option_or-None : {Y : Type 0} (a : Option Y) → option_or a None ≡ a
option_or-None None = refl
option_or-None (Some y) = refl

pub first_of-append : {X Y : Type 0} (test : X → Option Y) (xs ys : List X)
    → first_of test (xs ++ ys) ≡ option_or (first_of test xs) (first_of test ys)
first_of-append test [] ys = refl
first_of-append test (x ∷ xs) ys =
    ap (option_or (test x)) (first_of-append test xs ys) ∙ sym (option_or_assoc (test x) (first_of test xs) (first_of test ys))

pub first_of-map : {X Y Z : Type 0} (test : Y → Option Z) (f : X → Y) (xs : List X)
    → first_of test (map f xs) ≡ first_of (λ x. test (f x)) xs
first_of-map test f [] = refl
first_of-map test f (x ∷ xs) = ap (option_or (test (f x))) (first_of-map test f xs)

pub first_of-flat_map : {X Y Z : Type 0} (test : Y → Option Z) (f : X → List Y) (xs : List X)
    → first_of test (flat_map f xs) ≡ first_of (λ x. first_of test (f x)) xs
first_of-flat_map test f [] = refl
first_of-flat_map test f (x ∷ xs) =
    first_of-append test (f x) (flat_map f xs) ∙ ap (option_or (first_of test (f x))) (first_of-flat_map test f xs)

pub ruleset firsts = (first_of-append, first_of-map, first_of-flat_map, option_or-None, option_or_assoc)

-- after the front of a list and the item behind it
pub first_next : {X Y : Type 0} (test : X → Option Y) (xs : List X) (i : ℕ) (x : X) → i < length xs → x ≡ slice_index_or xs i x
    → first_of test (take i xs) ≡ None → first_of test (take (i + 1) xs) ≡ test x
first_next test xs i x within is none =
    ap (first_of test) (take_more xs i x within) ∙ first_of-append test (take i xs) (slice_index_or xs i x ∷ [])
    ∙ ap (λ o. option_or o (option_or (test (slice_index_or xs i x)) None)) none
    ∙ option_or-None (test (slice_index_or xs i x)) ∙ ap test (sym is)

-- one item more without a fault
pub first_more : {X Y : Type 0} (test : X → Option Y) (xs : List X) (i : ℕ) (x : X) → i < length xs → x ≡ slice_index_or xs i x
    → first_of test (take i xs) ≡ None → test x ≡ None → first_of test (take (i + 1) xs) ≡ None
first_more test xs i x within is none here = first_next test xs i x within is none ∙ here

-- a fault in the front of a list
pub first_front : {X Y : Type 0} (test : X → Option Y) (xs : List X) (n : ℕ) (y : Y) → first_of test (take n xs) ≡ Some y
    → first_of test xs ≡ Some y
first_front test xs n y front =
    ap (first_of test) (sym (take-append-drop n xs)) ∙ first_of-append test (take n xs) (drop n xs)
    ∙ ap (λ o. option_or o (first_of test (drop n xs))) front

-- a loop stops at the first item with a fault, or for want of memory
pub stops_at : {X F : Type 0} (stop : Stop F) (test : X → Option F) (xs : List X) (i : ℕ) (x : X) → i < length xs
    → x ≡ slice_index_or xs i x
    → first_of test (take i xs) ≡ None → Answers {A = Unit {0}} (Err stop) (test x) → Answers {A = Unit {0}} (Err stop) (first_of test xs)
stops_at (Fault fault) test xs i x within is none here = first_front test xs (i + 1) fault (first_next test xs i x within is none ∙ here)
stops_at NoMemory test xs i x within is none here = tt
