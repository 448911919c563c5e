-- The numbers of a table's obligations.
use Rattle.std.specs.Prelude.{ℕ, ◌+◌, ◌*◌}
use Rattle.ft_claims.specs.meaning.Coverage.{Fault, gap, overlap, range}

abbrev pub number_of : (table : ℕ) → Fault → ℕ
number_of k gap = 3 * k + 1
number_of k overlap = 3 * k + 2
number_of k range = 3 * k + 3
