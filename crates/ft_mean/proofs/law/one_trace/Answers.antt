use Rattle.ft_mean.proofs.Traces.{one_trace}
use Rattle.ft_mean.proofs.law.one_trace.Goals as goal

pub returns : goal.returns
returns c = one_trace
