use Rattle.std.proofs.Common.{length}
use Rattle.ft_claims.specs.meaning.Areas.{used, place_in}
use Rattle.ft_claims.proofs.BeginLemmas.{settled-truth}
use Rattle.ft_claims.proofs.law.formula_laws.Goals as goal
use Rattle.ft_claims.proofs.ObligedLemmas.{points_tell, makes_point, told_again}

pub returns-clause-points : goal.returns-clause-points
returns-clause-points c = points_tell

pub returns-clause-numbers : goal.returns-clause-numbers
returns-clause-numbers c = makes_point

pub returns-clause-alike : goal.returns-clause-alike
returns-clause-alike c = told_again

pub returns-clause-settled : goal.returns-clause-settled
returns-clause-settled c spans parts x = settled-truth c.settling_law.ensures (place_in (used (length spans) parts)) (length spans) parts x
