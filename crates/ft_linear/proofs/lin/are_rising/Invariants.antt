use Rattle.std.proofs.Common.{◌↔◌, drop}
use Rattle.ft_linear.specs.meaning.Form.{AreRising}
use Rattle.ft_linear.proofs.lin.are_rising.Given as goal

-- what is left decides
abbrev pub invariant-loop-factor : goal.invariant-loop-factor
invariant-loop-factor l = AreRising 0 l.factors ↔ AreRising l.from (drop l.factor-index l.factors)
