-- Facts on whole numbers that several proofs need.
use Rattle.std.proofs.Common.{arith, ◌≡◌, ℕ, ℤ, pos, true, false, neg_ℤ, ◌+ℤ◌, ◌≤ℤ◌}
use Rattle.std.specs.Prelude.{int_le, int_lt}
use Rattle.std.specs.Ordering.{int_eq}
use Rattle.std.proofs.lemmas.Int.{ints}

pub is-zero : (z : ℤ) → int_eq z (pos 0) ≡ true → z ≡ pos 0
is-zero z e = grind (arith, ints)

-- a number and minus it
pub opposites : (z : ℤ) → neg_ℤ z +ℤ z ≡ pos 0
opposites z = omega (arith, ints)

pub not-under : (n : ℕ) → int_lt (pos n) (pos 0) ≡ false
not-under n = grind (arith, ints)

pub at-most-zero : (z : ℤ) → int_le z (pos 0) ≡ true → z ≤ℤ pos 0
at-most-zero z e = grind (arith, ints, e)
