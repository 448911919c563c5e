use Rattle.std.proofs.Common.{ℕ}
use Rattle.std.specs.Int.{IsGcd}
use Rattle.ft_settle.proofs.canonical.gcd.Given as goal

-- what divides both numbers stays
abbrev pub invariant-loop-less : goal.invariant-loop-less
invariant-loop-less l = (g : ℕ) → IsGcd l.greater l.less g → IsGcd l.first l.second g

abbrev pub decreases-loop-less : goal.decreases-loop-less
decreases-loop-less l = l.less
