-- What fits in which width.
use Rattle.std.proofs.Common.{◌≤◌, ℤ, ◌*ℤ◌, arith, w64}
use Rattle.std.specs.Int.{w128}
use Rattle.std.specs.Prelude.{unsigned_abs, FitsSigned}
use Rattle.std.proofs.lemmas.Int.{ints, to_z-of_z, fits_signed_from_abs, fits_signed_mul}

pub fits-kept : (z : ℤ) → unsigned_abs z ≤ 1000000000000000 → FitsSigned w64 z
fits-kept z h = fits_signed_from_abs w64 z (omega arith)

pub ruleset fits = (ints, to_z-of_z, fits-kept)

abs-fits : (a : ℤ) → FitsSigned w64 a → unsigned_abs a ≤ 9223372036854775808
abs-fits a h = grind (arith, ints)

pub fits-product : (a b : ℤ) → FitsSigned w64 a → FitsSigned w64 b → FitsSigned w128 (a *ℤ b)
fits-product a b p q = fits_signed_mul w128 a b 9223372036854775808 9223372036854775808 (abs-fits a p) (abs-fits b q) (omega arith)

pub ruleset wide = (ints, to_z-of_z, fits-product)
