use Rattle.std.proofs.Common.{◌≡◌, take}
use Rattle.std.specs.List.{flat_map, zip}
use Rattle.ft_oblige.specs.building.Stating.{normal_row}
use Rattle.ft_oblige.proofs.walking.normal_rows.Given as goal

abbrev pub invariant-loop-at : goal.invariant-loop-at
invariant-loop-at l = l.list ≡ flat_map (normal_row l.tables l.frame l.aim.about l.aim.target l.columns) (take l.at (zip l.rows l.terms))
