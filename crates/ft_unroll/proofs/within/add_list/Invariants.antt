use Rattle.std.proofs.Common.{◌≡◌, ◌++◌}
use Rattle.ft_oblige.specs.meaning.Lists.{by_scan, nat_claims}
use Rattle.ft_unroll.proofs.within.add_list.Given as goal

abbrev pub invariant-loop-scan : goal.invariant-loop-scan
invariant-loop-scan l = l.parts ≡ l.initial.parts ++ by_scan (nat_claims l.tables) l.scan
