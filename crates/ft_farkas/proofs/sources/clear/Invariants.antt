use Rattle.std.proofs.Common.{◌≡◌, ◌<◌, ℕ, pos, length}
use Rattle.ft_farkas.specs.meaning.Rows.{row_of}
use Rattle.ft_farkas.proofs.sources.clear.Given as goal

-- the columns before this one are 0
abbrev pub invariant-columns : goal.invariant-columns
invariant-columns l = (length l.row ≡ length l.initial.row) × ((c : ℕ) → c < l.column → row_of l.row c ≡ pos 0)
