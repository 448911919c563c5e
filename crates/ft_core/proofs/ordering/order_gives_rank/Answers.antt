use Rattle.ft_core.proofs.OrderLaws.{gives-rank}
use Rattle.ft_core.proofs.ordering.order_gives_rank.Goals as goal

pub returns : goal.returns
returns c = gives-rank
