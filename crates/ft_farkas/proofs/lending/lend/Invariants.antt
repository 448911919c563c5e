use Rattle.std.proofs.Common.{◌≡◌, ◌≤◌, ◌+◌, ◌++◌, length, take, drop}
use Rattle.ft_farkas.specs.meaning.Rows.{row_of, bounds, chosen}
use Rattle.ft_farkas.proofs.lending.lend.Given as goal

-- with the lines from this one on, all are lent
abbrev pub invariant-sources : goal.invariant-sources
invariant-sources l = (length l.lent ≡ length l.initial.lent) × (l.used ≤ l.at)
    × (take l.used l.lent ++ chosen (row_of l.row) (l.unknowns + 1 + l.at) (drop l.at (l.lines ++ bounds l.unknowns)) ≡ chosen (row_of l.row) (l.unknowns + 1) (l.lines ++ bounds l.unknowns))
