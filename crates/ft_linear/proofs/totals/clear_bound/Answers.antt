use Rattle.ft_linear.proofs.TotalLemmas.{one-cleared}
use Rattle.ft_linear.proofs.totals.clear_bound.Goals as goal

pub returns : goal.returns
returns c factor = one-cleared c.args.totals.now c.args.unknown factor c.requires
