use Rattle.ft_compose.proofs.law.blocks_compose.Goals as goal
use Rattle.ft_compose.proofs.Composition.{compose}

pub returns : goal.returns
returns c = compose c.laws.ensures
