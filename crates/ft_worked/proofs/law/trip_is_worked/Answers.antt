use Rattle.ft_worked.proofs.TripLemmas.{worked}
use Rattle.ft_worked.proofs.law.trip_is_worked.Goals as goal

pub returns : goal.returns
returns c = worked
