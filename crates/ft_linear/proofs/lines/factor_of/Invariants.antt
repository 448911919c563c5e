use Rattle.std.proofs.Common.{◌≡◌, drop}
use Rattle.ft_linear.specs.meaning.Rules.{factor_of}
use Rattle.ft_linear.proofs.lines.factor_of.Given as goal

-- those before this one are of other unknowns
abbrev pub invariant-loop-factor : goal.invariant-loop-factor
invariant-loop-factor l = factor_of l.unknown l.factors ≡ factor_of l.unknown (drop l.factor-index l.factors)
