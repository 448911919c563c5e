use Rattle.std.proofs.Common.{◌<◌, ℕ, unsigned_abs}
use Prim.Native.Nat.{◌∣◌}
use Rattle.ft_farkas.specs.meaning.Rows.{row_of}
use Rattle.ft_farkas.proofs.dividing.divisor_of.Given as goal

-- the greatest common divisor of the columns before this one
abbrev pub invariant-columns : goal.invariant-columns
invariant-columns l = ((c : ℕ) → c < l.column → l.divisor ∣ unsigned_abs (row_of l.numbers c)) × ((d : ℕ) → ((c : ℕ) → c < l.column → d ∣ unsigned_abs (row_of l.numbers c)) → d ∣ l.divisor)
