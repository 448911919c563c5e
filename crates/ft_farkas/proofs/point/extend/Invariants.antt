use Rattle.std.proofs.Common.{◌≡◌, ◌<◌, ◌*ℤ◌, ℕ, pos, length}
use Rattle.ft_farkas.specs.meaning.Rows.{row_of}
use Rattle.ft_farkas.proofs.point.extend.Given as goal

-- the columns before this one are scaled
abbrev pub invariant-columns : goal.invariant-columns
invariant-columns l = (length l.numbers ≡ length l.initial.numbers) × ((c : ℕ) → c < l.column → row_of l.numbers c ≡ pos l.times *ℤ row_of l.point c)
