use Rattle.ft_cover.specs.meaning.Attempted.{AreClosed}
use Rattle.ft_cover.proofs.covering.first_open.Given as goal

abbrev pub invariant-loop-before : goal.invariant-loop-before
invariant-loop-before l = AreClosed l.tables l.keep l.before l.certs
