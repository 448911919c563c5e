use Rattle.ft_claims.proofs.goodness.good_laws.Goals as goal
use Rattle.ft_claims.proofs.GoodLemmas.{not-good, and-good}
use Rattle.ft_claims.proofs.PartGood.{conditions_good, cells_good, definitions_good, moves_good}

pub returns-clause-conditions : goal.returns-clause-conditions
returns-clause-conditions c = conditions_good

pub returns-clause-cells : goal.returns-clause-cells
returns-clause-cells c = cells_good c.table_laws.ensures.has_table c.table_laws.ensures.may_read

pub returns-clause-definitions : goal.returns-clause-definitions
returns-clause-definitions c = definitions_good c.table_laws.ensures.has_table c.table_laws.ensures.may_read

pub returns-clause-moves : goal.returns-clause-moves
returns-clause-moves c = moves_good

pub returns-clause-negations : goal.returns-clause-negations
returns-clause-negations c = not-good

pub returns-clause-conjunctions : goal.returns-clause-conjunctions
returns-clause-conjunctions c = and-good
