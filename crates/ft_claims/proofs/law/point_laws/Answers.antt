use Rattle.ft_claims.proofs.law.point_laws.Goals as goal
use Rattle.ft_claims.proofs.CoverGood.{parts_good}
use Rattle.ft_claims.proofs.CoverPoints.{points_local, points_show, shown_has, proper_pointless}

pub returns-clause-good : goal.returns-clause-good
returns-clause-good c = parts_good c.laws.ensures

pub returns-clause-local : goal.returns-clause-local
returns-clause-local c = points_local c.laws.ensures

pub returns-clause-show : goal.returns-clause-show
returns-clause-show c = points_show c.laws.ensures

pub returns-clause-has_point : goal.returns-clause-has_point
returns-clause-has_point c = shown_has c.laws.ensures

pub returns-clause-proper : goal.returns-clause-proper
returns-clause-proper c = proper_pointless c.laws.ensures
