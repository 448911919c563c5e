-- The greatest numbers that may occur, either way.
use Rattle.std.specs.Prelude.{ℕ}

-- a factor, a constant, and a value of an unknown
abbrev pub value_most : ℕ
value_most = 4000000000000000

-- a multiplier of a line
abbrev pub times_most : ℕ
times_most = 4611686018427387904
