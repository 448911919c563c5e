use Rattle.std.proofs.Common.{◌≡◌, ◌++◌, map, take}
use Rattle.std.specs.List.{zip}
use Rattle.ft_oblige.specs.building.Stating.{plain_one}
use Rattle.ft_oblige.proofs.walking.add_plain.Given as goal

abbrev pub invariant-loop-at : goal.invariant-loop-at
invariant-loop-at l = l.list ≡ l.initial.list ++ map (plain_one l.tables l.frame l.aim.about l.aim.target) (take l.at (zip l.conds l.terms))
