use Rattle.std.proofs.Common.{◌≡◌, length}
use Rattle.ft_farkas.specs.meaning.Rows.{row_of}
use Rattle.ft_farkas.specs.building.Turns.{IsUp}
use Rattle.ft_farkas.proofs.assigning.assign.Given as goal

-- the unknowns before this one have fractions
abbrev pub invariant-unknowns : goal.invariant-unknowns
invariant-unknowns l = (length l.point ≡ length l.initial.point) × (length l.numbers ≡ length l.initial.numbers) × IsUp l.kept.unknowns l.kept.rows (row_of l.point) l.unknown
