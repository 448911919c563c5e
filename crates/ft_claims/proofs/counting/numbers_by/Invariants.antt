use Rattle.std.proofs.Common.{◌≡◌, ◌++◌, drop}
use Rattle.ft_claims.specs.meaning.Areas.{counts}
use Rattle.ft_claims.proofs.counting.numbers_by.Given as goal

abbrev pub invariant-loop-mark : goal.invariant-loop-mark
invariant-loop-mark l = l.list ++ counts l.next (drop l.mark-index l.marks) ≡ counts 0 l.marks
