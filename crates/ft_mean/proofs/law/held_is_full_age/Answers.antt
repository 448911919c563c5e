use Rattle.ft_mean.proofs.AgeLemmas.{held_is_full_age}
use Rattle.ft_mean.proofs.law.held_is_full_age.Goals as goal

pub returns : goal.returns
returns c = held_is_full_age
