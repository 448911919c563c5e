use Rattle.std.proofs.Common.{◌≡◌, take}
use Rattle.std.specs.List.{flat_map, zip}
use Rattle.ft_oblige.specs.building.Stating.{inverted_row}
use Rattle.ft_oblige.proofs.walking.inverted_rows.Given as goal

abbrev pub invariant-loop-at : goal.invariant-loop-at
invariant-loop-at l = l.list ≡ flat_map (inverted_row l.tables l.frame l.aim.about l.aim.target l.terms) (take l.at (zip l.rows l.grid))
