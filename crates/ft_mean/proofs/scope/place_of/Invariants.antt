use Rattle.std.proofs.Common.{◌≡◌, ◌≤◌}
use Rattle.ft_core.specs.meaning.Kinds.{place_of}
use Rattle.ft_mean.specs.judge.Scope.{kinds_of}
use Rattle.ft_mean.proofs.scope.place_of.Given as goal

abbrev pub invariant-loop-place : goal.invariant-loop-place
invariant-loop-place l = (l.count ≡ place_of (kinds_of l.scope) l.vars l.place) × (l.count ≤ l.place)
