-- Totals and counts over lists, places at which at most one element passes a test, and what stands in lists that are joined.
use Rattle.std.proofs.Common.{◌≡◌, ◌∙◌, sym, ap, refl, ◌⊎◌, inl, inr, ℕ, zero, suc, ◌+◌, ◌≤◌, ◌<◌, Bool, true, false, cond}
use Rattle.std.proofs.Common.{◌||◌, List, [], ◌∷◌, ◌++◌, length, map, take, slice_get, Option, Some, None, bytes_eq, arith}
use Rattle.std.specs.Prelude.{if◌then◌else◌, sum_by, count_by, find, option_map}
use Rattle.std.specs.List.{Contains, flat_map, list_all, list_any}
use Rattle.std.specs.Option.{option_or}
use Rattle.std.proofs.Math.Nat.{not-suc-le-zero, le_of_suc-le-suc, suc-ne-zero}
use Rattle.std.proofs.lemmas.Bool.{and_from, cases_Bool, or_left, or_right, true≢false}
use Rattle.std.proofs.lemmas.List.{map-append}
use Rattle.std.proofs.lemmas.List.Concat.{length-flat_map}
use Rattle.std.proofs.lemmas.List.Sums.{sum_by-cons}
use Rattle.std.proofs.lemmas.Option.{none-some, same_Some}
use Rattle.std.proofs.lemmas.Slice.Eq.{bytes_eq-Decides}
use Rattle.ft_core.specs.checked.Distinct.{AreDistinct}
use Rattle.ft_core.specs.laws.Places.{contained, place-of}
use Rattle.ft_names.specs.meaning.First.{first_of}

-- a total that computes from the first element on
abbrev pub total : {X : Type 0} → (X → ℕ) → List X → ℕ
total f [] = 0
total f (x ∷ xs) = f x + total f xs

pub total-is : {X : Type 0} (f : X → ℕ) (xs : List X) → total f xs ≡ sum_by f xs
total-is f [] = refl
total-is f (x ∷ xs) = ap (λ n. f x + n) (total-is f xs) ∙ sym (sum_by-cons f x xs)

-- how many pass a test
abbrev pub times : {X : Type 0} → (X → Bool) → List X → ℕ
times test xs = total (λ x. cond (test x) 1 0) xs

pub times-is : {X : Type 0} (test : X → Bool) (xs : List X) → times test xs ≡ count_by test xs
times-is test xs = total-is (λ x. cond (test x) 1 0) xs

pub yes : (b : Bool) → b ≡ true → cond {A = ℕ} b 1 0 ≡ 1
yes b is = ap (λ c. cond {A = ℕ} c 1 0) is

pub no_one : (b : Bool) → b ≡ false → cond {A = ℕ} b 1 0 ≡ 0
no_one b is = ap (λ c. cond {A = ℕ} c 1 0) is

pub total-append : {X : Type 0} (f : X → ℕ) (xs ys : List X) → total f (xs ++ ys) ≡ total f xs + total f ys
total-append f [] ys = omega arith
total-append f (x ∷ xs) ys = let rest = total-append f xs ys in omega arith

pub total-map : {X Y : Type 0} (f : Y → ℕ) (g : X → Y) (xs : List X) → total f (map g xs) ≡ total (λ x. f (g x)) xs
total-map f g [] = refl
total-map f g (x ∷ xs) = ap (λ n. f (g x) + n) (total-map f g xs)

pub total-flat : {X Y : Type 0} (f : Y → ℕ) (g : X → List Y) (xs : List X) → total f (flat_map g xs) ≡ total (λ x. total f (g x)) xs
total-flat f g [] = refl
total-flat f g (x ∷ xs) = total-append f (g x) (flat_map g xs) ∙ ap (λ n. total f (g x) + n) (total-flat f g xs)

pub total-plus : {X : Type 0} (f g : X → ℕ) (xs : List X) → total (λ x. f x + g x) xs ≡ total f xs + total g xs
total-plus f g [] = refl
total-plus f g (x ∷ xs) = let rest = total-plus f g xs in omega arith

-- a total of larger terms is larger
pub total-le : {X : Type 0} (f g : X → ℕ) (xs : List X) → ((x : X) → f x ≤ g x) → total f xs ≤ total g xs
total-le f g [] each = omega arith
total-le f g (x ∷ xs) each =
    let here = each x in
    let rest = total-le f g xs each in
    omega arith

-- a term is within the total
pub term-le : {X : Type 0} (f : X → ℕ) (xs : List X) (k : ℕ) (x : X) → slice_get xs k ≡ Some x → f x ≤ total f xs
term-le f [] k x at = absurd (none-some x at)
term-le f (y ∷ xs) zero x at =
    let same : f y ≡ f x = ap f (same_Some y x at) in
    omega arith
term-le f (y ∷ xs) (suc k) x at = let rest = term-le f xs k x at in omega arith

pub length-flat : {X Y : Type 0} (g : X → List Y) (xs : List X) → length (flat_map g xs) ≡ total (λ x. length (g x)) xs
length-flat g xs = length-flat_map g xs ∙ sym (total-is (λ x. length (g x)) xs)

-- counts

pub some-times : {X : Type 0} (test : X → Bool) (xs : List X) (k : ℕ) (x : X) → slice_get xs k ≡ Some x → test x ≡ true
    → 1 ≤ times test xs
some-times test xs k x at passes =
    let one = yes (test x) passes in
    let most = term-le (λ y. cond (test y) 1 0) xs k x at in
    omega arith

-- one that passes stands there
pub times-some : {X : Type 0} (test : X → Bool) (xs : List X) → 1 ≤ times test xs → (k : ℕ) × (x : X) × (slice_get xs k ≡ Some x)
    × (test x ≡ true)
times-some test [] some = absurd (omega arith)
times-some test (x ∷ xs) some = elim (cases_Bool (test x)) [
  | inl passes ↦ (0, x, refl, passes)
  | inr fails ↦
      let nothing = no_one (test x) fails in
      let rest = times-some test xs (omega arith) in
      (suc rest.0, rest.1, rest.2, rest.3)
]

pub no-times : {X : Type 0} (test : X → Bool) (xs : List X) → ((k : ℕ) (x : X) → slice_get xs k ≡ Some x → test x ≡ true → ⊥)
    → times test xs ≡ 0
no-times test [] none = refl
no-times test (x ∷ xs) none = elim (cases_Bool (test x)) [
  | inl passes ↦ absurd (none 0 x refl passes)
  | inr fails ↦
      let nothing = no_one (test x) fails in
      let rest = no-times test xs (λ k. none (suc k)) in
      omega arith
]

-- two elements that pass stand at one place
pub one-place : {X : Type 0} (test : X → Bool) (xs : List X) → times test xs ≤ 1 → (k l : ℕ) (x y : X) → slice_get xs k ≡ Some x
    → slice_get xs l ≡ Some y → test x ≡ true → test y ≡ true → k ≡ l
one-place test [] few k l x y at_k at_l p q = absurd (none-some x at_k)
one-place test (z ∷ xs) few zero zero x y at_k at_l p q = refl
one-place test (z ∷ xs) few zero (suc l) x y at_k at_l p q =
    let one = yes (test z) (ap test (same_Some z x at_k) ∙ p) in
    let more = some-times test xs l y at_l q in
    absurd (omega arith)
one-place test (z ∷ xs) few (suc k) zero x y at_k at_l p q =
    let one = yes (test z) (ap test (same_Some z y at_l) ∙ q) in
    let more = some-times test xs k x at_k p in
    absurd (omega arith)
one-place test (z ∷ xs) few (suc k) (suc l) x y at_k at_l p q =
    let rest : times test xs ≤ 1 = omega arith in
    ap suc (one-place test xs rest k l x y at_k at_l p q)

-- and the other way round
pub few-times : {X : Type 0} (test : X → Bool) (xs : List X)
    → ((k l : ℕ) (x y : X) → slice_get xs k ≡ Some x → slice_get xs l ≡ Some y → test x ≡ true → test y ≡ true → k ≡ l)
    → times test xs ≤ 1
few-times test [] once = omega arith
few-times test (x ∷ xs) once = elim (cases_Bool (test x)) [
  | inl passes ↦
      let one = yes (test x) passes in
      let rest = no-times test xs (λ l y at q. suc-ne-zero l (sym (once 0 (suc l) x y refl at passes q))) in
      omega arith
  | inr fails ↦
      let nothing = no_one (test x) fails in
      let rest = few-times test xs (λ k l y z at_k at_l p q. below k l (once (suc k) (suc l) y z at_k at_l p q)) in
      omega arith
]
  where
    below : (k l : ℕ) → suc k ≡ suc l → k ≡ l
    below k l e = omega arith

-- where each element passes once at most, none stands twice
pub distinct-by : {X : Type 0} (same : X → X → Bool) (self : (x : X) → same x x ≡ true) (xs : List X)
    → ((x : X) → times (same x) xs ≤ 1) → AreDistinct xs
distinct-by same self xs few k l x at_k at_l = one-place (same x) xs (few x) k l x x at_k at_l (self x) (self x)

-- a text is itself
pub same-self : (text : List ℕ) → bytes_eq text text ≡ true
same-self text = (bytes_eq-Decides text text).1 refl

-- what a new element leaves: no key stands twice
module _ {X K : Type 0} (test : K → X → Bool) (key : X → K) (agree : (q : K) (x : X) → test q x ≡ true → q ≡ key x) where
  none-before : (q : K) (xs : List X) → list_any (test q) xs ≡ false → times (test q) xs ≡ 0
  none-before q [] none = refl
  none-before q (x ∷ xs) none = elim (cases_Bool (test q x)) [
    | inl passes ↦ absurd (true≢false (sym (or_left (test q x) (list_any (test q) xs) passes) ∙ none))
    | inr fails ↦
        let nothing = no_one (test q x) fails in
        let rest = none-before q xs (ap (λ b. b || list_any (test q) xs) (sym fails) ∙ none) in
        omega arith
  ]

  pub one-more : (q : K) (xs : List X) (x : X) → list_any (test (key x)) xs ≡ false → times (test q) xs ≤ 1
      → times (test q) (xs ++ x ∷ []) ≤ 1
  one-more q xs x new few = elim (cases_Bool (test q x)) [
    | inl passes ↦
        let none = none-before q xs (ap (λ (k : K). list_any (test k) xs) (agree q x passes) ∙ new) in
        let one = yes (test q x) passes in
        let all = total-append (λ y. cond (test q y) 1 0) xs (x ∷ []) in
        omega arith
    | inr fails ↦
        let nothing = no_one (test q x) fails in
        let all = total-append (λ y. cond (test q y) 1 0) xs (x ∷ []) in
        omega arith
  ]

-- lists of lists

pub map-flat : {X Y Z : Type 0} (f : Y → Z) (g : X → List Y) (xs : List X) → map f (flat_map g xs) ≡ flat_map (λ x. map f (g x)) xs
map-flat f g [] = refl
map-flat f g (x ∷ xs) = map-append f (g x) (flat_map g xs) ∙ ap (λ l. map f (g x) ++ l) (map-flat f g xs)

pub all-pass : {X : Type 0} (test : X → Bool) (xs : List X) → ((x : X) → Contains xs x → test x ≡ true) → list_all test xs ≡ true
all-pass test [] each = refl
all-pass test (x ∷ xs) each = and_from (test x) (list_all test xs) (each x (contained (x ∷ xs) 0 x refl))
    (all-pass test xs (λ y has. let at = place-of xs y has in each y (contained (x ∷ xs) (suc at.0) y at.1)))

pub any-passes : {X : Type 0} (test : X → Bool) (xs : List X) (k : ℕ) (x : X) → slice_get xs k ≡ Some x → test x ≡ true
    → list_any test xs ≡ true
any-passes test [] k x at passes = absurd (none-some x at)
any-passes test (y ∷ xs) zero x at passes = or_left (test y) (list_any test xs) (ap test (same_Some y x at) ∙ passes)
any-passes test (y ∷ xs) (suc k) x at passes = or_right (test y) (list_any test xs) (any-passes test xs k x at passes)

pub some-passes : {X : Type 0} (test : X → Bool) (xs : List X) → list_any test xs ≡ true
    → (k : ℕ) × (x : X) × (slice_get xs k ≡ Some x) × (test x ≡ true)
some-passes test [] any = absurd (true≢false (sym any))
some-passes test (x ∷ xs) any = elim (cases_Bool (test x)) [
  | inl passes ↦ (0, x, refl, passes)
  | inr fails ↦
      let rest = some-passes test xs (ap (λ b. b || list_any test xs) (sym fails) ∙ any) in
      (suc rest.0, rest.1, rest.2, rest.3)
]

-- the one element of a list
pub only : {X : Type 0} (x y : X) → Contains (x ∷ []) y → x ≡ y
only x y (zero, less, is) = is
only x y (suc k, less, is) = absurd (not-suc-le-zero (le_of_suc-le-suc less))

-- the first or one of the others
pub first-or : {X : Type 0} (x : X) (xs : List X) (y : X) → Contains (x ∷ xs) y → (x ≡ y) ⊎ Contains xs y
first-or x xs y (zero, less, is) = inl is
first-or x xs y (suc k, less, is) = inr (k, le_of_suc-le-suc less, is)

pub nothing-in : {X : Type 0} (x : X) → Contains [] x → ⊥
nothing-in x has = not-suc-le-zero has.1

-- what the search for the first that passes finds
pub find-place : {X : Type 0} (test : X → Bool) (xs : List X) (x : X) → find test xs ≡ Some x
    → (k : ℕ) × (slice_get xs k ≡ Some x) × (test x ≡ true)
find-place {X = X} test [] x found = absurd (none-some x found)
find-place {X = X} test (y ∷ xs) x found = elim (cases_Bool (test y)) [
  | inl passes ↦
      let same : y ≡ x = same_Some y x (ap (λ b. cond b (Some y) (find test xs)) (sym passes) ∙ found) in
      (0, ap (λ (z : X). Some z) same, ap test (sym same) ∙ passes)
  | inr fails ↦
      let rest = find-place test xs x (ap (λ b. cond b (Some y) (find test xs)) (sym fails) ∙ found) in
      (suc rest.0, rest.1, rest.2)
]

pub find-some : {X : Type 0} (test : X → Bool) (xs : List X) (k : ℕ) (x : X) → slice_get xs k ≡ Some x → test x ≡ true
    → (y : X) × (find test xs ≡ Some y)
find-some test [] k x at passes = absurd (none-some x at)
find-some test (y ∷ xs) zero x at passes =
    (y, ap (λ b. cond b (Some y) (find test xs)) (ap test (same_Some y x at) ∙ passes))
find-some test (y ∷ xs) (suc k) x at passes = elim (cases_Bool (test y)) [
  | inl here ↦ (y, ap (λ b. cond b (Some y) (find test xs)) here)
  | inr fails ↦
      let rest = find-some test xs k x at passes in
      (rest.0, ap (λ b. cond b (Some y) (find test xs)) fails ∙ rest.1)
]

pub mapped-some : {X Y : Type 0} (f : X → Y) (o : Option X) (y : Y) → option_map f o ≡ Some y → (x : X) × (o ≡ Some x) × (f x ≡ y)
mapped-some f None y is = absurd (none-some y is)
mapped-some f (Some x) y is = (x, refl, same_Some (f x) y is)

-- no fault

-- a test is passed that gives a fault where it fails
pub passed : {Y : Type 0} (b : Bool) (fault : Y) → (if b then None else Some fault) ≡ None → b ≡ true
passed true fault none = refl
passed false fault none = absurd (none-some fault (sym none))

-- and one is not passed that gives a fault where it is
pub failed : {Y : Type 0} (b : Bool) (fault : Y) → (if b then Some fault else None) ≡ None → b ≡ false
failed true fault none = absurd (none-some fault (sym none))
failed false fault none = refl

pub or-none : {Y : Type 0} (a b : Option Y) → option_or a b ≡ None → (a ≡ None) × (b ≡ None)
or-none None b none = (refl, none)
or-none (Some y) b none = absurd (none-some y (sym none))

pub no-fault : {X Y : Type 0} (test : X → Option Y) (xs : List X) → first_of test xs ≡ None → (x : X) → Contains xs x → test x ≡ None
no-fault test [] none x has = absurd (nothing-in x has)
no-fault test (y ∷ xs) none x has =
    let parts = or-none (test y) (first_of test xs) none in
    elim (first-or y xs x has) [
      | inl same ↦ ap test (sym same) ∙ parts.0
      | inr rest ↦ no-fault test xs parts.1 x rest
    ]

-- how many pass before a place

pub before-less : {X : Type 0} (test : X → Bool) (xs : List X) (k : ℕ) (x : X) → slice_get xs k ≡ Some x → test x ≡ true
    → times test (take k xs) < times test xs
before-less test [] k x at passes = absurd (none-some x at)
before-less test (y ∷ xs) zero x at passes =
    let one = yes (test y) (ap test (same_Some y x at) ∙ passes) in
    omega arith
before-less test (y ∷ xs) (suc k) x at passes = let rest = before-less test xs k x at passes in omega arith

pub before-once : {X : Type 0} (test : X → Bool) (xs : List X) (k l : ℕ) (x y : X) → slice_get xs k ≡ Some x → slice_get xs l ≡ Some y
    → test x ≡ true → test y ≡ true → times test (take k xs) ≡ times test (take l xs) → k ≡ l
before-once test [] k l x y at_k at_l p q same = absurd (none-some x at_k)
before-once test (z ∷ xs) zero zero x y at_k at_l p q same = refl
before-once test (z ∷ xs) zero (suc l) x y at_k at_l p q same =
    let one = yes (test z) (ap test (same_Some z x at_k) ∙ p) in
    absurd (omega arith)
before-once test (z ∷ xs) (suc k) zero x y at_k at_l p q same =
    let one = yes (test z) (ap test (same_Some z y at_l) ∙ q) in
    absurd (omega arith)
before-once test (z ∷ xs) (suc k) (suc l) x y at_k at_l p q same =
    ap suc (before-once test xs k l x y at_k at_l p q (omega arith))
