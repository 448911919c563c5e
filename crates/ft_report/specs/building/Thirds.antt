-- The three faults of a table by number.
use Rattle.std.specs.Prelude.{ℕ, zero, suc}
use Rattle.ft_claims.specs.meaning.Coverage.{Fault, gap, overlap, range}

-- from 0
abbrev pub fault_at : ℕ → Fault
fault_at zero = gap
fault_at (suc zero) = overlap
fault_at (suc (suc n)) = range
