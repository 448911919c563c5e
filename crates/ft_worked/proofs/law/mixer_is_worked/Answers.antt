use Rattle.ft_worked.proofs.MixerLemmas.{worked}
use Rattle.ft_worked.proofs.law.mixer_is_worked.Goals as goal

pub returns : goal.returns
returns c = worked
