use Rattle.std.proofs.Common.{◌≡◌, ◌≤◌, ◌<◌, ℕ, length, unsigned_abs}
use Rattle.ft_farkas.specs.meaning.Rows.{row_of}
use Rattle.ft_farkas.specs.building.Quotients.{quotient_of}
use Rattle.ft_farkas.proofs.dividing.divide.Given as goal

-- the columns before this one are divided
abbrev pub invariant-columns : goal.invariant-columns
invariant-columns l = (length l.quotients ≡ length l.initial.quotients) × ((c : ℕ) → c < l.column → (unsigned_abs (row_of l.quotients c) ≤ l.limit) × (row_of l.quotients c ≡ quotient_of (row_of l.numbers c) l.divisor))
