use Rattle.std.proofs.Common.{◌≡◌, ◌++◌, take}
use Rattle.std.specs.List.{flat_map, zip}
use Rattle.ft_core.specs.meaning.Grids.{numbered}
use Rattle.ft_cover.specs.building.Places.{column_places}
use Rattle.ft_cover.proofs.placing.add_cells.Given as goal

abbrev pub invariant-loop-column : goal.invariant-loop-column
invariant-loop-column g l = l.places ≡ l.initial.places ++ flat_map (column_places l.vars (g.L.Look.view l.look) l.wanted l.target l.row)
    (take l.column (numbered (zip l.conds l.terms)))
