use Rattle.std.proofs.Common.{◌+◌, ◌-◌, ◌≤◌, length}
use Rattle.ft_claims.proofs.MergeLemmas.{IsMerged}
use Rattle.ft_claims.proofs.sums.merged.Given as goal

abbrev pub invariant-loop-left : goal.invariant-loop-left
invariant-loop-left l = IsMerged l.first l.second l.factors l.left l.right × (l.left ≤ length l.first) × (l.right ≤ length l.second)

abbrev pub decreases-loop-left : goal.decreases-loop-left
decreases-loop-left l = (length l.first - l.left) + (length l.second - l.right)
