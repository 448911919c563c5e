use Rattle.std.proofs.Common.{take}
use Rattle.ft_claims.specs.meaning.Formulas.{CollectsAll}
use Rattle.ft_claims.proofs.formulating.+formula.Given as goal

abbrev pub invariant-formulas_of-loop-part : goal.invariant-formulas_of-loop-part
invariant-formulas_of-loop-part l = CollectsAll l.base (take l.part-index l.parts) l.initial.pairs l.pairs l.list
