use Rattle.std.proofs.Common.{◌≡◌, map, take}
use Rattle.ft_settle.specs.settling.Factors.{quotient_of}
use Rattle.ft_settle.proofs.canonical.canonical_factors.Given as goal

abbrev pub invariant-loop-factor : goal.invariant-loop-factor
invariant-loop-factor l = l.list ≡ map (quotient_of l.positive l.divisor) (take l.factor-index l.factors)
