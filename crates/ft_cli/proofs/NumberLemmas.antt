-- The number of a generated set, from its value up to 61.
use Rattle.std.proofs.Common.{◌≡◌, ◌∙◌, ap, sym, refl, true≢false, min, ◌&&◌, nat_le, ℕ, ◌≤◌, Bool, true, false, List, None, Some, if◌then◌else◌, arith}
use Rattle.std.proofs.lemmas.Bool.{leb-true}
use Rattle.std.proofs.lemmas.Option.{none-some, same_Some}
use Rattle.ft_base.specs.Digits.{decimal_value}
use Rattle.ft_cli.specs.Top.{is_set_number, is_short_number, set_number}

-- 60 is far enough from 61
same-value : (n number : ℕ) → number ≡ min n 61 → number ≤ 60 → n ≡ number
same-value n number is few = omega (arith, is, few)

few-of : (n : ℕ) → is_set_number n ≡ true → n ≤ 60
few-of n h = by_tests (nat_le 1 n) (nat_le n 60) refl h
  where
    by_tests : (a b : Bool) → nat_le n 60 ≡ b → (a && b) ≡ true → n ≤ 60
    by_tests true true is both = leb-true n 60 is
    by_tests true false is both = absurd (true≢false (sym both))
    by_tests false b is both = absurd (true≢false (sym both))

some-of : (n : ℕ) → is_set_number n ≡ true → 1 ≤ n
some-of n h = by_test (nat_le 1 n) refl h
  where
    by_test : (a : Bool) → nat_le 1 n ≡ a → (a && nat_le n 60) ≡ true → 1 ≤ n
    by_test true is both = leb-true 1 n is
    by_test false is both = absurd (true≢false (sym both))

pub capped : (n number : ℕ) → number ≡ min n 61 → is_set_number number ≡ is_set_number n
capped n number is = by_test (is_set_number number) (is_set_number n) refl refl
  where
    by_test : (a b : Bool) → is_set_number number ≡ a → is_set_number n ≡ b → a ≡ b
    by_test true true low high = refl
    by_test false false low high = refl
    by_test true false low high = sym low ∙ ap is_set_number (sym (same-value n number is (few-of number low))) ∙ high
    by_test false true low high =
        let few = few-of n high in
        let same : n ≡ number = omega (arith, is, few) in
        sym (sym high ∙ ap is_set_number same ∙ low)

pub set-number-by : (word : List ℕ) (number : ℕ) → number ≡ min (decimal_value word) 61
    → (named : Bool) → named ≡ (is_short_number word && is_set_number number) → (if named then Some number else None) ≡ set_number word
set-number-by word number is named same = ap (λ b. if b then Some number else None) same
    ∙ by_test (is_short_number word) (is_set_number number) refl
  where
    by_test : (a b : Bool) → is_set_number number ≡ b
        → (if a && b then Some number else None) ≡ (if a && is_set_number (decimal_value word) then Some (decimal_value word) else None)
    by_test false b fits = refl
    by_test true false fits =
        ap (λ c. if c then Some (decimal_value word) else None) (sym fits ∙ capped (decimal_value word) number is)
    by_test true true fits =
        ap Some (sym (same-value (decimal_value word) number is (few-of number fits)))
        ∙ ap (λ c. if c then Some (decimal_value word) else None) (sym fits ∙ capped (decimal_value word) number is)

-- the number that a word spells is that of a generated set
pub number-within : (word : List ℕ) (n : ℕ) → set_number word ≡ Some n → (1 ≤ n) × (n ≤ 60)
number-within word n = by_tests (is_short_number word) (is_set_number (decimal_value word)) refl
  where
    by_tests : (a b : Bool) → is_set_number (decimal_value word) ≡ b → (if a && b then Some (decimal_value word) else None) ≡ Some n
        → (1 ≤ n) × (n ≤ 60)
    by_tests true true is same =
        let value : n ≡ decimal_value word = sym (same_Some (decimal_value word) n same) in
        let some = some-of (decimal_value word) is in
        let few = few-of (decimal_value word) is in
        (omega (arith, value, some), omega (arith, value, few))
    by_tests true false is same = absurd (none-some n same)
    by_tests false b is same = absurd (none-some n same)
