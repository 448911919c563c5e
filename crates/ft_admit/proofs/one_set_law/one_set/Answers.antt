use Rattle.ft_admit.proofs.OneSetLemmas.{one-set}
use Rattle.ft_admit.proofs.one_set_law.one_set.Goals as goal

pub returns : goal.returns
returns c = one-set c.one_tree.ensures
