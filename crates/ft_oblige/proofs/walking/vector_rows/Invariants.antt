use Rattle.std.proofs.Common.{◌≡◌, take}
use Rattle.std.specs.List.{flat_map, zip}
use Rattle.ft_oblige.specs.building.Stating.{vector_row}
use Rattle.ft_oblige.proofs.walking.vector_rows.Given as goal

abbrev pub invariant-loop-at : goal.invariant-loop-at
invariant-loop-at l = l.list ≡ flat_map (vector_row l.tables l.frame l.about l.columns) (take l.at (zip l.targets l.terms))
