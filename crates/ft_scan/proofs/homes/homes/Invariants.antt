use Rattle.std.proofs.Common.{◌≡◌, length}
use Rattle.ft_scan.specs.steps.Homes.{AreHomes}
use Rattle.ft_scan.proofs.homes.homes.Given as goal

abbrev pub invariant-tables : goal.invariant-tables
invariant-tables l = (length l.homes ≡ l.fn.variables) × AreHomes l.tables l.section l.at l.homes
