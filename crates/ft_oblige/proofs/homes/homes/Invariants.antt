use Rattle.ft_oblige.specs.building.Homes.{AreHomes}
use Rattle.ft_oblige.proofs.homes.homes.Given as goal

abbrev pub invariant-loop-at : goal.invariant-loop-at
invariant-loop-at l = AreHomes l.tables l.section l.variables l.at l.homes
