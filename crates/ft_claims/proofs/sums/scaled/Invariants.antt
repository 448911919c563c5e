use Rattle.std.proofs.Common.{◌≡◌, ◌*ℤ◌, map, take}
use Rattle.ft_claims.proofs.sums.scaled.Given as goal

abbrev pub invariant-loop-factor : goal.invariant-loop-factor
invariant-loop-factor l = l.list ≡ map (λ f. (f.0, l.by *ℤ f.1)) (take l.factor-index l.factors)
