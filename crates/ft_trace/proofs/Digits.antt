-- Digits, one at a time.
use Rattle.std.proofs.Common.{◌≡◌, ℕ, ◌+◌, ◌*◌, ◌<◌, ◌≤◌, List, length, drop, get_or, refl, arith, add-one}
use Rattle.std.specs.Prelude.{◌^◌, option_and_then}
use Rattle.std.proofs.lemmas.List.{drop_more}
use Rattle.std.proofs.Math.Nat.{pow-succ', pow-le-pow_right}
use Rattle.ft_trace.specs.meaning.Decimal.{digit_of, digits_after}

-- the digits from a place on
pub digits-step : (field : List ℕ) (i value : ℕ) → i < length field
    → digits_after value (drop i field) ≡ option_and_then (λ d. digits_after (value * 10 + d) (drop (i + 1) field))
    (digit_of (get_or field i 0))
unfolding digits_after
digits-step field i value within = rw (drop_more field i 0 within) refl

-- one more digit is below the next power
pub grows : (i value digit : ℕ) → value < 10 ^ i → digit ≤ 9 → value * 10 + digit < 10 ^ (i + 1)
grows i value digit below small = rw (add-one, pow-succ' 10 i) (omega arith)

pub below-limit : (i value : ℕ) → i ≤ 17 → value < 10 ^ i → value < 10 ^ 17
below-limit i value few below = let more : 10 ^ i ≤ 10 ^ 17 = pow-le-pow_right {n = 10} (omega arith) few in omega arith

pub below-power : (i value : ℕ) → i ≤ 18 → value < 10 ^ i → value < 10 ^ 18
below-power i value few below = let more : 10 ^ i ≤ 10 ^ 18 = pow-le-pow_right {n = 10} (omega arith) few in omega arith

pub small-at : (field : List ℕ) (i : ℕ) → length field ≤ 18 → i ≤ length field → i ≤ 18
small-at field i few within = omega (arith, few, within)
