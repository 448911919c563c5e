use Rattle.ft_scan.specs.steps.Homes.{PutsRowHomes}
use Rattle.ft_scan.proofs.homes.put_row_homes.Given as goal

abbrev pub invariant-rows : goal.invariant-rows
invariant-rows l = PutsRowHomes l.table l.targets l.row l.initial.homes l.homes
