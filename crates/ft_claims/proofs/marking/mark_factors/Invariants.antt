use Rattle.std.proofs.Common.{◌≡◌, map, take}
use Rattle.ft_claims.specs.meaning.Areas.{with_marks}
use Rattle.ft_claims.proofs.marking.mark_factors.Given as goal

abbrev pub invariant-loop-factor : goal.invariant-loop-factor
invariant-loop-factor l = l.marks ≡ with_marks l.initial.marks (map (λ f. f.0) (take l.factor-index l.factors))
