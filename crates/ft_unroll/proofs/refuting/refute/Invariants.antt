use Rattle.ft_unroll.proofs.FoundLemmas.{HasNoneTo}
use Rattle.ft_unroll.proofs.refuting.refute.Given as goal

abbrev pub invariant-loop-before : goal.invariant-loop-before
invariant-loop-before l = HasNoneTo l.tables l.before
