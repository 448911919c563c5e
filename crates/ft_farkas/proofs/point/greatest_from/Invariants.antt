use Rattle.ft_farkas.specs.meaning.Rows.{row_of}
use Rattle.ft_farkas.specs.building.Points.{IsBound, AllUnder}
use Rattle.ft_farkas.proofs.point.greatest_from.Given as goal

-- the greatest of the bounds by the rows before this one
abbrev pub invariant-rows : goal.invariant-rows
invariant-rows l = IsBound l.kept.unknowns l.unknown l.kept.rows (row_of l.point) l.best.row l.best.value l.best.times
    × AllUnder l.kept.unknowns l.unknown l.kept.rows (row_of l.point) l.at l.best.value l.best.times
