use Rattle.std.proofs.Common.{◌≡◌, ◌<◌, ◌+ℤ◌, ◌*ℤ◌, pos, ℕ, length}
use Rattle.ft_farkas.specs.meaning.Rows.{row_of}
use Rattle.ft_farkas.proofs.mixing.mix.Given as goal

-- the columns before this one are added
abbrev pub invariant-columns : goal.invariant-columns
invariant-columns l = (length l.sum ≡ length l.first) × ((c : ℕ) → c < l.column → row_of l.sum c ≡ (pos l.times_first *ℤ row_of l.first c) +ℤ (pos l.times_second *ℤ row_of l.second c))
