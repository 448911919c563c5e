use Rattle.ft_compose.proofs.law.failure_laws.Goals as goal
use Rattle.ft_compose.proofs.FailureLemmas.{points_are_states, points_fail, states_make_points, fails_false, told_alike, failing_open}

pub returns-clause-states : goal.returns-clause-states
returns-clause-states c = points_are_states c.laws.ensures

pub returns-clause-fail : goal.returns-clause-fail
returns-clause-fail c = points_fail c.laws.ensures

pub returns-clause-points : goal.returns-clause-points
returns-clause-points c = states_make_points c.laws.ensures

pub returns-clause-is_false : goal.returns-clause-is_false
returns-clause-is_false c = fails_false c.laws.ensures

pub returns-clause-cells : goal.returns-clause-cells
returns-clause-cells c = told_alike c.laws.ensures

pub returns-clause-open : goal.returns-clause-open
returns-clause-open c = failing_open c.laws.ensures
