use Rattle.std.proofs.Common.{◌≡◌, ◌++◌, take, []}
use Rattle.std.specs.List.{flat_map, zip}
use Rattle.ft_core.specs.meaning.Grids.{numbered}
use Rattle.ft_cover.specs.building.Places.{vector_row}
use Rattle.ft_cover.proofs.placing.vector_places.Given as goal

abbrev pub invariant-loop-row : goal.invariant-loop-row
invariant-loop-row g l = l.places ≡ [] ++ flat_map (vector_row l.vars (g.L.Look.view l.look) l.wanted l.columns)
    (take l.row (numbered (zip l.targets l.terms)))
