use Rattle.ft_mean.specs.judge.Scope.{kinds_of}
use Rattle.ft_scan.proofs.ListedLemmas.{AreListed}
use Rattle.ft_scan.proofs.places.scope_places.Given as goal

abbrev pub invariant-loop-place : goal.invariant-loop-place
invariant-loop-place l = AreListed (kinds_of l.part) l.tables.vars l.place l.places
