use Rattle.ft_measure.proofs.BoundedLemmas.{measure_bounded}
use Rattle.ft_measure.proofs.law.values_bounded.Goals as goal

pub returns : goal.returns
returns c = measure_bounded
