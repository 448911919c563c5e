use Rattle.std.proofs.Common.{◌≡◌, take}
use Rattle.ft_oblige.specs.building.Homes.{with_homes}
use Rattle.ft_oblige.proofs.homes.put_homes.Given as goal

abbrev pub invariant-loop-variable : goal.invariant-loop-variable
invariant-loop-variable l = l.homes ≡ with_homes l.table l.initial.homes (take l.variable-index l.variables)
