use Rattle.ft_unroll.proofs.law.number_laws.Goals as goal
use Rattle.ft_unroll.proofs.RollLemmas.{roll_meets, differs_meets}
use Rattle.ft_unroll.proofs.UnrollLemmas.{list_whole, list_differs}

pub returns-clause-whole : goal.returns-clause-whole
returns-clause-whole c S n σ met = list_whole c.laws.ensures S n σ met

pub returns-clause-numbers : goal.returns-clause-numbers
returns-clause-numbers c S n ρ whole = roll_meets c.laws.ensures S ρ n whole

pub returns-clause-differ : goal.returns-clause-differ
returns-clause-differ c = list_differs c.laws.ensures

pub returns-clause-differences : goal.returns-clause-differences
returns-clause-differences c = differs_meets c.laws.ensures
