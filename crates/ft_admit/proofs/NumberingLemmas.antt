-- Variables and memories that are numbered together, in order of declaration, take each number once.
use Rattle.std.proofs.Common.{arith, ◌≡◌, ◌∙◌, sym, ap, refl, ◌⊎◌, inl, inr, ℕ, zero, suc, ◌+◌, ◌≤◌, ◌<◌, List, [], ◌∷◌, ◌++◌, length}
use Rattle.std.proofs.Common.{slice_get, Some, nat_lt, append_assoc, append-nil, Bool, drop, if◌then◌else◌}
use Rattle.std.specs.Prelude.{slice_index_or}
use Rattle.std.proofs.lemmas.List.{drop_all}
use Rattle.std.proofs.Math.Seq.{drop-cons}
use Rattle.std.specs.List.{flat_map}
use Rattle.std.proofs.lemmas.Bool.{cases_Bool, ltb-true, ltb-false}
use Rattle.std.proofs.lemmas.Option.{same_Some}
use Rattle.ft_tree.specs.declared.item.Item.{Item}
use Rattle.ft_tree.specs.declared.item.Item.TheVariants.{Constant, RangeType, EnumType, Variable, Held, Hyst, Normal, Inverted, Vector, Nat}
use Rattle.ft_tree.specs.declared.item.Item.TheVariants.{Block}
use Rattle.ft_core.specs.meaning.Items.{IsNumbering}
use Rattle.ft_names.specs.meaning.Cards.{Env, declares_memory, declares_variable}
use Rattle.ft_build.specs.declared.places.Places.{Places}
use Rattle.ft_build.specs.meaning.Tables.{build_memory}
use Rattle.ft_build.specs.meaning.Variables.{counted, vars_from}
use Rattle.ft_admit.specs.meaning.Cycles.{declares_item, number_after, number_if, numbering, numbers_from, scan_names}

-- a place of a list once a number is put in at place m
abbrev shifted : ℕ → ℕ → ℕ
shifted zero j = suc j
shifted (suc m) zero = zero
shifted (suc m) (suc j) = suc (shifted m j)

abbrev Found : (xs ys : List ℕ) → (n k q : ℕ) → Type 0
Found xs ys n k q =
    ((k ≡ length xs) × (n ≡ q)) ⊎ ((j : ℕ) × (slice_get (xs ++ ys) j ≡ Some q) × (k ≡ shifted (length xs) j))

from-put : (xs ys : List ℕ) (n k q : ℕ) → slice_get (xs ++ n ∷ ys) k ≡ Some q → Found xs ys n k q
from-put [] ys n zero q at = inl (refl, same_Some n q at)
from-put [] ys n (suc k) q at = inr (k, at, refl)
from-put (x ∷ xs) ys n zero q at = inr (zero, at, refl)
from-put (x ∷ xs) ys n (suc k) q at = elim (from-put xs ys n k q at) [
  | inl (e, h) ↦ inl (ap suc e, h)
  | inr (j, h, e) ↦ inr (suc j, h, ap suc e)
]

to-put : (xs ys : List ℕ) (n j q : ℕ) → slice_get (xs ++ ys) j ≡ Some q → slice_get (xs ++ n ∷ ys) (shifted (length xs) j) ≡ Some q
to-put [] ys n j q at = at
to-put (x ∷ xs) ys n zero q at = at
to-put (x ∷ xs) ys n (suc j) q at = to-put xs ys n j q at

here-put : (xs ys : List ℕ) (n : ℕ) → slice_get (xs ++ n ∷ ys) (length xs) ≡ Some n
here-put [] ys n = refl
here-put (x ∷ xs) ys n = here-put xs ys n

long-put : (xs ys : List ℕ) (n : ℕ) → length (xs ++ n ∷ ys) ≡ suc (length (xs ++ ys))
long-put [] ys n = refl
long-put (x ∷ xs) ys n = ap suc (long-put xs ys n)

-- the c numbers from n on, each once
record AreNumbers (n c : ℕ) (numbers : List ℕ) : Type 0 where
  pub long : length numbers ≡ c
  pub above : (k q : ℕ) → slice_get numbers k ≡ Some q → n ≤ q
  pub below : (k q : ℕ) → slice_get numbers k ≡ Some q → q < n + c
  pub once : (k l q : ℕ) → slice_get numbers k ≡ Some q → slice_get numbers l ≡ Some q → k ≡ l
  pub each : (q : ℕ) → n ≤ q → q < n + c → (k : ℕ) × (slice_get numbers k ≡ Some q)

-- with the number before them put in anywhere
put-in : (n c : ℕ) (xs ys : List ℕ) → AreNumbers (n + 1) c (xs ++ ys) → AreNumbers n (suc c) (xs ++ n ∷ ys)
put-in n c xs ys rest = record {
  long = long-put xs ys n ∙ ap suc rest.long;
  above = λ k q at. above k q (from-put xs ys n k q at);
  below = λ k q at. below k q (from-put xs ys n k q at);
  once = λ k l q at_k at_l. once k l q (from-put xs ys n k q at_k) (from-put xs ys n l q at_l);
  each = λ q low high. each q low high;
}
  where
    above : (k q : ℕ) → Found xs ys n k q → n ≤ q
    above k q (inl (e, h)) = omega (arith, h)
    above k q (inr (j, h, e)) = let low = rest.above j q h in omega (arith, low)

    below : (k q : ℕ) → Found xs ys n k q → q < n + suc c
    below k q (inl (e, h)) = omega (arith, h)
    below k q (inr (j, h, e)) = let high = rest.below j q h in omega (arith, high)

    later : (j q : ℕ) → n ≡ q → slice_get (xs ++ ys) j ≡ Some q → ⊥
    later j q same at = let low = rest.above j q at in omega (arith, low, same)

    once : (k l q : ℕ) → Found xs ys n k q → Found xs ys n l q → k ≡ l
    once k l q (inl (e, h)) (inl (f, i)) = e ∙ sym f
    once k l q (inl (e, h)) (inr (j, i, f)) = absurd (later j q h i)
    once k l q (inr (j, h, e)) (inl (f, i)) = absurd (later j q i h)
    once k l q (inr (j, h, e)) (inr (m, i, f)) = e ∙ ap (shifted (length xs)) (rest.once j m q h i) ∙ sym f

    each : (q : ℕ) → n ≤ q → q < n + suc c → (k : ℕ) × (slice_get (xs ++ n ∷ ys) k ≡ Some q)
    each q low high = elim (cases_Bool (nat_lt n q)) [
      | inl less
          ↦ let more : n < q = ltb-true n q less in
          let found = rest.each q (omega (arith, more)) (omega (arith, high)) in
          (shifted (length xs) found.0, to-put xs ys n found.0 q found.1)
      | inr same
          ↦ let least : q ≤ n = ltb-false n q same in
          let is : n ≡ q = omega (arith, low, least) in
          (length xs, here-put xs ys n ∙ ap Some is)
    ]

none-left : (n : ℕ) → AreNumbers n 0 []
none-left n = record {
  long = refl;
  above = λ k q at. cc at;
  below = λ k q at. cc at;
  once = λ k l q at_k at_l. cc at_k;
  each = λ q low high. absurd (omega (arith, low, high));
}

numbers-of : (items : List Item) (n : ℕ)
    → AreNumbers n (length (scan_names items)) (numbers_from declares_variable n items ++ numbers_from declares_memory n items)
unfolding numbers_from
numbers-of [] n = none-left n
numbers-of (Constant name minus value ∷ items) n = numbers-of items n
numbers-of (RangeType name lo hi ∷ items) n = numbers-of items n
numbers-of (EnumType name members ∷ items) n = numbers-of items n
numbers-of (Variable word name of init ∷ items) n =
    put-in n (length (scan_names items)) []
    (numbers_from declares_variable (n + 1) items ++ numbers_from declares_memory (n + 1) items) (numbers-of items (n + 1))
numbers-of (Held side name cond hold ∷ items) n =
    put-in n (length (scan_names items)) (numbers_from declares_variable (n + 1) items) (numbers_from declares_memory (n + 1) items)
    (numbers-of items (n + 1))
numbers-of (Hyst side name term lo hi start ∷ items) n =
    put-in n (length (scan_names items)) (numbers_from declares_variable (n + 1) items) (numbers_from declares_memory (n + 1) items)
    (numbers-of items (n + 1))
numbers-of (Normal section target columns rows ∷ items) n = numbers-of items n
numbers-of (Inverted section target headers rows ∷ items) n = numbers-of items n
numbers-of (Vector section columns rows ∷ items) n = numbers-of items n
numbers-of (Nat moment cond ∷ items) n = numbers-of items n
numbers-of (Block name takes uses facts ∷ items) n = numbers-of items n

-- there are as many as variables and memories
count-of : (all : List Item) (env : Env) (places : Places) (items : List Item)
    → length (scan_names items) ≡ length (vars_from all env places items) + length (flat_map (build_memory all env) items)
unfolding vars_from
count-of all env places [] = refl
count-of all env places (Constant name minus value ∷ items) = count-of all env places items
count-of all env places (RangeType name lo hi ∷ items) = count-of all env places items
count-of all env places (EnumType name members ∷ items) = count-of all env places items
count-of all env places (Variable word name of init ∷ items) =
    let more = count-of all env (counted places (Variable word name of init)) items in omega (arith, more)
count-of all env places (Held side name cond hold ∷ items) = let more = count-of all env places items in omega (arith, more)
count-of all env places (Hyst side name term lo hi start ∷ items) = let more = count-of all env places items in omega (arith, more)
count-of all env places (Normal section target columns rows ∷ items) = count-of all env places items
count-of all env places (Inverted section target headers rows ∷ items) = count-of all env places items
count-of all env places (Vector section columns rows ∷ items) = count-of all env places items
count-of all env places (Nat moment cond ∷ items) = count-of all env places items
count-of all env places (Block name takes uses facts ∷ items) = count-of all env places items

pub is-numbering : (items : List Item) (count : ℕ) → length (scan_names items) ≡ count → IsNumbering count (numbering items)
is-numbering items count same = let all = numbers-of items 0 in record {
  long = all.long ∙ same;
  below = λ k n at. let low = all.below k n at in omega (arith, low, same);
  once = all.once;
  each = λ n low. all.each n (omega arith) (omega (arith, low, same));
}

pub counted-names : (all : List Item) (env : Env) (places : Places) (items : List Item)
    → length (scan_names items) ≡ length (vars_from all env places items) + length (flat_map (build_memory all env) items)
counted-names = count-of

-- the numbers that are left as a loop comes to its next item
next-number : (test : Item → Bool) (n : ℕ) (x : Item) (xs : List Item)
    → numbers_from test n (x ∷ xs) ≡ number_if test n x ++ numbers_from test (number_after n x) xs
unfolding numbers_from
next-number test n x xs = refl

no-number : (test : Item → Bool) (n : ℕ) → numbers_from test n [] ≡ []
unfolding numbers_from
no-number test n = refl

drop-next : (xs : List Item) (i : ℕ) (x : Item) → i < length xs → x ≡ slice_index_or xs i x → drop i xs ≡ x ∷ drop (i + 1) xs
drop-next xs i x within is =
    let step : suc i ≡ i + 1 = omega arith in
    drop-cons xs i x within ∙ ap (λ y. y ∷ drop (suc i) xs) (sym is) ∙ ap (λ j. x ∷ drop j xs) step

pub numbers-more : (test : Item → Bool) (whole front new : List ℕ) (n m : ℕ) (items : List Item) (i : ℕ) (x : Item) → i < length items
    → x ≡ slice_index_or items i x → whole ≡ front ++ numbers_from test n (drop i items) → new ≡ front ++ number_if test n x
    → m ≡ number_after n x → whole ≡ new ++ numbers_from test m (drop (i + 1) items)
numbers-more test whole front new n m items i x within is left made after =
    left ∙ ap (λ l. front ++ numbers_from test n l) (drop-next items i x within is)
    ∙ ap (λ l. front ++ l) (next-number test n x (drop (i + 1) items))
    ∙ sym (append_assoc front (number_if test n x) (numbers_from test (number_after n x) (drop (i + 1) items)))
    ∙ ap (λ l. l ++ numbers_from test (number_after n x) (drop (i + 1) items)) (sym made)
    ∙ ap (λ k. new ++ numbers_from test k (drop (i + 1) items)) (sym after)

pub after-low : (n m i : ℕ) (x : Item) → n ≤ i → m ≡ number_after n x → m ≤ i + 1
after-low n m i x low after = elim (cases_Bool (declares_item x)) [
  | inl one' ↦ let more : m ≡ n + 1 = after ∙ ap (λ (b : Bool). if b then n + 1 else n) one' in omega (arith, low, more)
  | inr none ↦ let same : m ≡ n = after ∙ ap (λ (b : Bool). if b then n + 1 else n) none in omega (arith, low, same)
]

pub numbers-end : (test : Item → Bool) (whole front : List ℕ) (n : ℕ) (items : List Item) (i : ℕ) → length items ≤ i
    → whole ≡ front ++ numbers_from test n (drop i items) → front ≡ whole
numbers-end test whole front n items i past left =
    sym (left ∙ ap (λ l. front ++ numbers_from test n l) (drop_all i items past) ∙ ap (λ l. front ++ l) (no-number test n)
    ∙ append-nil front)
