use Rattle.std.proofs.Common.{refl}
use Rattle.ft_search.proofs.turns.plain_choice.Goals as goal

pub returns-else-has_solution-clause-choice : goal.returns-else-has_solution-clause-choice
returns-else-has_solution-clause-choice c enough halved denied = record {
  holds = c.has_solution.ensures.none c.if-has_solution.false;
  lawful = tt;
  parts = refl;
  can = tt;
  splits = refl;
  halves = refl;
  tightens = λ e. refl;
}
