-- How great the numbers of sums get, either way.
use Rattle.std.specs.Prelude.{ℕ}

-- a factor times a value, and 10,000 of them together
abbrev pub product_most : ℕ
product_most = 16000000000000000000000000000000

abbrev pub sum_most : ℕ
sum_most = 160000000000000000000000000000000000

-- a number of a line, which is at most 1 above a constant
abbrev pub line_most : ℕ
line_most = 4000000000000001

-- a multiplier times a number of a line, and 4,300 of them together
abbrev pub line_product_most : ℕ
line_product_most = 18446744073709556227686018427387904

abbrev pub line_sum_most : ℕ
line_sum_most = 79320999516951091779049879237767987200
