use Rattle.ft_unroll.proofs.law.list_laws.Goals as goal
use Rattle.ft_unroll.proofs.PointLemmas.{points_have_lists, points_allow, lists_are_allowed, points_differ, differences_have_points}

pub returns-clause-lists : goal.returns-clause-lists
returns-clause-lists c = points_have_lists c.laws.ensures

pub returns-clause-allow : goal.returns-clause-allow
returns-clause-allow c = points_allow c.laws.ensures

pub returns-clause-allowed : goal.returns-clause-allowed
returns-clause-allowed c = lists_are_allowed c.laws.ensures

pub returns-clause-differ : goal.returns-clause-differ
returns-clause-differ c = points_differ c.laws.ensures

pub returns-clause-differences : goal.returns-clause-differences
returns-clause-differences c = differences_have_points c.laws.ensures
