use Rattle.ft_names.proofs.RoomLemmas.{items-few}
use Rattle.ft_names.proofs.law.few_items.Goals as goal

pub returns : goal.returns
returns c = items-few
