use Rattle.ft_core.proofs.SetOrderLemmas.{gives-set-order}
use Rattle.ft_core.proofs.numbering.order_gives_set_order.Goals as goal

pub returns : goal.returns
returns c = gives-set-order
