use Rattle.ft_compose.proofs.law.shown_blocks_compose.Goals as goal
use Rattle.ft_compose.proofs.Composition.{shown_compose}

pub returns : goal.returns
returns c = shown_compose c.laws.ensures
