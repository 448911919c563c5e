use Rattle.std.proofs.Common.{refl}
use Rattle.ft_check.proofs.steps.lines_step.Goals as goal

pub returns-then-has_solution-clause-is : goal.returns-then-has_solution-clause-is
returns-then-has_solution-clause-is c none = none _ (c.has_solution.ensures.some c.if-has_solution.true)

pub returns-else-has_solution-clause-is : goal.returns-else-has_solution-clause-is
returns-else-has_solution-clause-is c = (c.has_solution.ensures.none c.if-has_solution.false, refl, tt)
