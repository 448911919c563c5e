use Rattle.ft_mean.proofs.MovesLaw.{memories_move}
use Rattle.ft_mean.proofs.law.memories_move.Goals as goal

pub returns : goal.returns
returns c = memories_move
