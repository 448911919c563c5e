use Rattle.ft_unroll.proofs.law.short_laws.Goals as goal
use Rattle.ft_unroll.proofs.ShortLemmas.{allowed_one_less, differs_at_last, closed_short}

pub returns-clause-allowed : goal.returns-clause-allowed
returns-clause-allowed c = allowed_one_less c.laws.ensures

pub returns-clause-differs : goal.returns-clause-differs
returns-clause-differs c = differs_at_last c.laws.ensures

pub returns-clause-safe : goal.returns-clause-safe
returns-clause-safe c = closed_short c.laws.ensures
