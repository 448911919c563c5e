-- Tests over lists that are joined, mapped, or have no first fault.
use Rattle.std.proofs.Common.{◌≡◌, ◌∙◌, sym, ap, refl, Bool, true, false, ◌&&◌, List, [], ◌∷◌, ◌++◌, Option, Some, None, is_none}
use Rattle.std.proofs.Common.{if◌then◌else◌}
use Rattle.std.specs.List.{list_all, flat_map}
use Rattle.std.specs.Option.{option_or}
use Rattle.std.proofs.lemmas.Bool.{and_parts, and_from}
use Rattle.std.proofs.lemmas.List.Folds.{list_all-append}
use Rattle.ft_names.specs.meaning.First.{first_of}

-- no fault of two is none of either
pub or-first : {Y : Type 0} (a b : Option Y) → option_or a b ≡ None → a ≡ None
or-first None b e = refl
or-first (Some y) b e = cc e

pub or-second : {Y : Type 0} (a b : Option Y) → option_or a b ≡ None → b ≡ None
or-second None b e = e
or-second (Some y) b e = cc e

pub is-none : {Y : Type 0} (a : Option Y) → is_none a ≡ true → a ≡ None
is-none None e = refl
is-none (Some y) e = cc e

-- a fault that isn't there where a test fails
pub if-kept : {Y : Type 0} (b : Bool) (y : Y) → (if b then Some y else None) ≡ None → b ≡ false
if-kept true y e = cc e
if-kept false y e = refl

pub if-passed : {Y : Type 0} (b : Bool) (y : Y) → (if b then None else Some y) ≡ None → b ≡ true
if-passed true y e = refl
if-passed false y e = cc e

pub none-passes : {X Y : Type 0} (test : X → Option Y) (xs : List X) → first_of test xs ≡ None → list_all (λ x. is_none (test x)) xs ≡ true
none-passes test [] e = refl
none-passes test (x ∷ xs) e =
    and_from (is_none (test x)) (list_all (λ y. is_none (test y)) xs) (ap is_none (or-first (test x) (first_of test xs) e))
    (none-passes test xs (or-second (test x) (first_of test xs) e))

pub all-flat_map : {X Y : Type 0} (p : Y → Bool) (f : X → List Y) (xs : List X)
    → list_all p (flat_map f xs) ≡ list_all (λ x. list_all p (f x)) xs
all-flat_map p f [] = refl
all-flat_map p f (x ∷ xs) = list_all-append p (f x) (flat_map f xs) ∙ ap (λ b. list_all p (f x) && b) (all-flat_map p f xs)

pub all-follow : {X : Type 0} (p q : X → Bool) (xs : List X) → ((x : X) → p x ≡ true → q x ≡ true) → list_all p xs ≡ true
    → list_all q xs ≡ true
all-follow p q [] h a = refl
all-follow p q (x ∷ xs) h a =
    let both = and_parts (p x) (list_all p xs) a in
    and_from (q x) (list_all q xs) (h x both.0) (all-follow p q xs h both.1)

pub all-both : {X : Type 0} (p q : X → Bool) (xs : List X) → list_all p xs ≡ true → list_all q xs ≡ true
    → list_all (λ x. p x && q x) xs ≡ true
all-both p q [] a b = refl
all-both p q (x ∷ xs) a b =
    let first = and_parts (p x) (list_all p xs) a in
    let second = and_parts (q x) (list_all q xs) b in
    and_from (p x && q x) (list_all (λ y. p y && q y) xs) (and_from (p x) (q x) first.0 second.0) (all-both p q xs first.1 second.1)

-- the parts of a joined list each pass, and the other way round
pub parts-pass : {X : Type 0} (p : X → Bool) (xs ys : List X) → list_all p (xs ++ ys) ≡ true
    → (list_all p xs ≡ true) × (list_all p ys ≡ true)
parts-pass p xs ys h = and_parts (list_all p xs) (list_all p ys) (sym (list_all-append p xs ys) ∙ h)

pub joined-passes : {X : Type 0} (p : X → Bool) (xs ys : List X) → list_all p xs ≡ true → list_all p ys ≡ true
    → list_all p (xs ++ ys) ≡ true
joined-passes p xs ys h k = list_all-append p xs ys ∙ and_from (list_all p xs) (list_all p ys) h k
