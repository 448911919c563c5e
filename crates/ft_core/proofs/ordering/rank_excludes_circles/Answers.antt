use Rattle.ft_core.proofs.OrderLaws.{excludes}
use Rattle.ft_core.proofs.ordering.rank_excludes_circles.Goals as goal

pub returns : goal.returns
returns c = excludes
