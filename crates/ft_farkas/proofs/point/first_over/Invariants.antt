use Rattle.ft_farkas.specs.meaning.Rows.{row_of}
use Rattle.ft_farkas.specs.building.Points.{NoneOver}
use Rattle.ft_farkas.proofs.point.first_over.Given as goal

-- no row before this one is over the bound
abbrev pub invariant-rows : goal.invariant-rows
invariant-rows l = NoneOver l.kept.unknowns l.unknown l.kept.rows (row_of l.point) l.at l.lower.value l.lower.times
