use Rattle.std.proofs.Common.{FitsSigned, rules, subst, sym, to_z-of_z, w64}
use Rattle.ft_cert.specs.declared.node.CertNode.{CertNode}
use Rattle.ft_cert.specs.walk.Steps.{IsStepOf}
use Rattle.ft_check.proofs.steps.step_of.Goals as goal

pub returns-in-R-clause-is : goal.returns-in-R-clause-is
returns-in-R-clause-is c =
    let fits : FitsSigned w64 c.in-R.value = search rules in
    let step = simp to_z-of_z at (c.cut_step.ensures c.args.formula.now) in
    subst (λ (n : CertNode). IsStepOf c.args.formula.now c.args.part.now n c.cut_step.result) (sym c.in-R.is) step
