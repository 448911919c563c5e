use Rattle.ft_compose.proofs.law.faultless_compose.Goals as goal
use Rattle.ft_compose.proofs.BlockLemmas.{faultless_compose}

pub returns : goal.returns
returns c = faultless_compose c.laws.ensures
