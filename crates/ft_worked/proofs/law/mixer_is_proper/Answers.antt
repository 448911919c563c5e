use Rattle.ft_worked.proofs.MixerProper.{is_proper}
use Rattle.ft_worked.proofs.law.mixer_is_proper.Goals as goal

pub returns : goal.returns
returns c = is_proper
