use Rattle.std.proofs.Common.{◌≡◌, ◌++◌, map, take}
use Rattle.std.specs.List.{zip}
use Rattle.ft_oblige.specs.building.Stating.{headed_one}
use Rattle.ft_oblige.proofs.walking.add_headed.Given as goal

abbrev pub invariant-loop-at : goal.invariant-loop-at
invariant-loop-at l = l.list ≡ l.initial.list
    ++ map (headed_one l.tables l.frame l.aim.about l.aim.target l.row) (take l.at (zip l.conds l.terms))
