use Rattle.std.proofs.Common.{◌≡◌, ◌≤◌, ◌*◌, unsigned_abs}
use Rattle.ft_farkas.specs.meaning.Rows.{row_of}
use Rattle.ft_farkas.specs.building.Points.{dot}
use Rattle.ft_farkas.proofs.point.value_of.Given as goal

-- the sum of the columns before this one
abbrev pub invariant-columns : goal.invariant-columns
invariant-columns l = (l.total ≡ dot l.column (row_of l.row) (row_of l.point)) × (unsigned_abs l.total ≤ 41538374868278621028243970633760768 * l.column)
