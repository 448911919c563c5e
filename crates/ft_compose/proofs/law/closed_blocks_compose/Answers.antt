use Rattle.ft_compose.proofs.law.closed_blocks_compose.Goals as goal
use Rattle.ft_compose.proofs.Numbered.{closed_compose}

pub returns : goal.returns
returns c = closed_compose c.laws.ensures
