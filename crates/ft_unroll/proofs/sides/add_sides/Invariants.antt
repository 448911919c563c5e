use Rattle.std.proofs.Common.{◌≡◌, ◌++◌}
use Rattle.ft_oblige.specs.meaning.Lists.{by_scan, sides_at}
use Rattle.ft_unroll.proofs.sides.add_sides.Given as goal

abbrev pub invariant-loop-scan : goal.invariant-loop-scan
invariant-loop-scan l = l.parts ≡ l.initial.parts ++ by_scan (sides_at l.tables) l.scan
