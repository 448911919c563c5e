use Rattle.std.proofs.Common.{take}
use Rattle.std.specs.Prelude.{All}
use Rattle.ft_linear.specs.meaning.Form.{HasUnknowns}
use Rattle.ft_linear.proofs.formula.are_over.Given as goal

abbrev pub invariant-loop-form : goal.invariant-loop-form
invariant-loop-form l = All (λ f. HasUnknowns l.count f.factors) (take l.form-index l.atoms)
