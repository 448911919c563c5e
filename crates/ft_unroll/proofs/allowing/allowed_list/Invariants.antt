use Rattle.ft_unroll.proofs.FoundLemmas.{IsLongest}
use Rattle.ft_unroll.proofs.allowing.allowed_list.Given as goal

abbrev pub invariant-loop-before : goal.invariant-loop-before
invariant-loop-before l = IsLongest l.tables l.before l.longest
