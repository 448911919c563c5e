use Rattle.std.proofs.Common.{subst, Option}
use Rattle.ft_names.specs.declared.asked.Asked.TheVariants.{Anything}
use Rattle.ft_names.specs.meaning.First.{Answers}
use Rattle.ft_measure.specs.declared.slope.Slope.{Slope}
use Rattle.ft_measure.proofs.judging.Slopes.judge.Goals as goal

pub returns : goal.returns
returns c = subst (λ (first : Option Slope). Answers c.found.result first) (c.measure_expr.ensures.first Anything) c.found.ensures
