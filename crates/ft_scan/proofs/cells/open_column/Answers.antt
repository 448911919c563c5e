use Rattle.ft_scan.proofs.VectorLemmas.{opened_at}
use Rattle.ft_scan.proofs.cells.open_column.Goals as goal

pub returns-in-Vector : goal.returns-in-Vector
returns-in-Vector g c = opened_at (g.L.Look.view c.args.look.now) c.args.grid.now c.in-Vector.columns c.in-Vector.targets c.in-Vector.terms
    c.in-Vector.is
    c.as_slice.result.now c.as_slice.ensures c.first_that_holds.result c.first_that_holds.ensures
