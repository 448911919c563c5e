use Rattle.std.proofs.Common.{take}
use Rattle.ft_settle.proofs.CanonicalLemmas.{IsDivisor}
use Rattle.ft_settle.proofs.canonical.gcd_of.Given as goal

abbrev pub invariant-loop-factor : goal.invariant-loop-factor
invariant-loop-factor l = IsDivisor l.divisor (take l.factor-index l.factors)
