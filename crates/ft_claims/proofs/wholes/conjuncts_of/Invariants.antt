use Rattle.std.proofs.Common.{◌≡◌, ◌++◌, take}
use Rattle.ft_claims.specs.meaning.Formulas.{conjuncts}
use Rattle.ft_claims.proofs.wholes.conjuncts_of.Given as goal

abbrev pub invariant-loop-at : goal.invariant-loop-at
invariant-loop-at l = l.list ≡ l.initial.list ++ conjuncts l.base (take l.at l.pairs)
