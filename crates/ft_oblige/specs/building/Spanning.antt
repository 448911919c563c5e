-- What memories may keep, as bounds of unknowns.
use Rattle.std.specs.Prelude.{ℕ, ◌≡◌, List, Some, slice_get}
use Rattle.ft_base.specs.Interval.{IsBounded}
use Rattle.ft_core.specs.declared.tables.Memory.{Memory}
use Rattle.ft_mean.specs.laws.Moves.{span_of}

-- the numbers that a memory keeps are as small as those of a variable
abbrev pub IsKept : Memory → Type 0
IsKept memory = IsBounded 1000000000 (span_of memory).0 (span_of memory).1

abbrev pub AreKept : List Memory → Type 0
AreKept memories = (m : ℕ) (memory : Memory) → slice_get memories m ≡ Some memory → IsKept memory
