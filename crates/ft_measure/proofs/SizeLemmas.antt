-- How large sums, differences, negations and quotients are, and that what is at most 10^15 either way fits a machine number.
use Rattle.std.proofs.Common.{◌≡◌, ℕ, ◌+◌, ◌≤◌, ℤ, pos, negsuc, ◌+ℤ◌, ◌-ℤ◌, neg_ℤ, arith, w64}
use Rattle.std.specs.Prelude.{unsigned_abs, FitsSigned, IsTrue, int_le}
use Rattle.std.specs.Int.{int_div_euclid}
use Rattle.std.proofs.lemmas.Int.{ints, to_z-of_z, fits_signed_from_abs}
use Rattle.std.proofs.Math.Nat.{div-le_self}
use Rattle.ft_measure.specs.meaning.Measures.{limit}

-- a size of the result is the sum of sizes of both sides
abbrev pub IsAdditive : (ℤ → ℤ → ℤ) → Type 0
IsAdditive f = (x y : ℤ) (m n : ℕ) → unsigned_abs x ≤ m → unsigned_abs y ≤ n → unsigned_abs (f x y) ≤ m + n

pub sum_additive : IsAdditive ◌+ℤ◌
sum_additive x y m n least other = grind (arith, ints)

pub difference_additive : IsAdditive ◌-ℤ◌
difference_additive x y m n least other = grind (arith, ints)

pub negation_same : (x : ℤ) → unsigned_abs (neg_ℤ x) ≡ unsigned_abs x
negation_same x = grind (arith, ints)

pub quotient_at_most : (x k : ℤ) → IsTrue (int_le (pos 1) k) → unsigned_abs (int_div_euclid x k) ≤ unsigned_abs x
quotient_at_most (pos n) (pos k) above = grind (arith, div-le_self n k)
quotient_at_most (negsuc n) (pos k) above = grind (arith, div-le_self n k)
quotient_at_most (pos n) (negsuc k) above = cc
quotient_at_most (negsuc n) (negsuc k) above = cc

pub small_fits : (x : ℤ) → unsigned_abs x ≤ limit → FitsSigned w64 x
small_fits x small = fits_signed_from_abs w64 x (omega arith)

pub ruleset arithmetic = (ints, to_z-of_z, sum_additive, difference_additive, negation_same, small_fits)
