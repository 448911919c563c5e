use Rattle.ft_search.proofs.BudgetLemmas.{spends-less}
use Rattle.ft_search.proofs.law.search_laws.Goals as goal

pub returns : goal.returns
returns c = record { budget = spends-less c.part_laws.ensures.one_point }
