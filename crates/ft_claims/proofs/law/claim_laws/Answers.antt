use Rattle.ft_claims.proofs.law.claim_laws.Goals as goal
use Rattle.ft_claims.proofs.ReadLemmas.{sym_says, claim_tells, cell_says, definition_says}
use Rattle.ft_claims.proofs.LinkLemmas.{link_says}
use Rattle.ft_claims.proofs.MoveLemmas.{move_says}

pub returns-clause-terms : goal.returns-clause-terms
returns-clause-terms c = sym_says

pub returns-clause-conditions : goal.returns-clause-conditions
returns-clause-conditions c = claim_tells

pub returns-clause-cells : goal.returns-clause-cells
returns-clause-cells c = cell_says

pub returns-clause-definitions : goal.returns-clause-definitions
returns-clause-definitions c = definition_says

pub returns-clause-moves : goal.returns-clause-moves
returns-clause-moves c = move_says

pub returns-clause-links : goal.returns-clause-links
returns-clause-links c = link_says
