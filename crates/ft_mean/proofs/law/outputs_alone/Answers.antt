use Rattle.ft_mean.proofs.ByScan.{outputs_alone}
use Rattle.ft_mean.proofs.law.outputs_alone.Goals as goal

pub returns : goal.returns
returns c = outputs_alone
