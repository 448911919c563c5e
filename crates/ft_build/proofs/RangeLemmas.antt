-- When bounds are those of a range.
use Rattle.std.proofs.Common.{◌≡◌, ℤ, arith}
use Rattle.std.proofs.lemmas.Int.{ints}
use Rattle.ft_base.specs.Interval.{IsBounded}
use Rattle.ft_build.specs.meaning.Variables.{ranged}

pub ranged-bounded : (lo hi : ℤ) → IsBounded 1000000000 lo hi → ranged lo hi ≡ (lo, hi)
ranged-bounded lo hi b = grind (arith, ints)

pub ruleset ranges = (ints, ranged-bounded)
