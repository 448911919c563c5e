use Rattle.std.proofs.Common.{◌≡◌, ◌++◌, take, []}
use Rattle.std.specs.List.{flat_map, zip}
use Rattle.ft_core.specs.meaning.Grids.{numbered}
use Rattle.ft_cover.specs.building.Places.{normal_row}
use Rattle.ft_cover.proofs.placing.normal_places.Given as goal

abbrev pub invariant-loop-row : goal.invariant-loop-row
invariant-loop-row g l = l.places ≡ [] ++ flat_map (normal_row l.vars (g.L.Look.view l.look) l.wanted l.target l.columns)
    (take l.row (numbered (zip l.rows l.terms)))
