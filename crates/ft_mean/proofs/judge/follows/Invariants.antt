use Rattle.std.proofs.Common.{◌≡◌, true}
use Rattle.ft_mean.specs.judge.Scope.{is_right, at_all, through}
use Rattle.ft_mean.proofs.judge.follows.Given as goal

abbrev pub invariant-loop-scan : goal.invariant-loop-scan
invariant-loop-scan l =
    through l.scan (λ t. at_all l.tables (is_right l.tables l.side l.given l.trace l.seen t)) ≡ true
