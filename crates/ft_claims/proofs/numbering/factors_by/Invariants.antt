use Rattle.std.proofs.Common.{◌≡◌, map, take}
use Rattle.ft_claims.specs.meaning.Areas.{number_by}
use Rattle.ft_claims.proofs.numbering.factors_by.Given as goal

abbrev pub invariant-loop-factor : goal.invariant-loop-factor
invariant-loop-factor l = l.list ≡ map (λ f. (number_by l.numbers f.0, f.1)) (take l.factor-index l.factors)
