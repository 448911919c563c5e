use Rattle.ft_core.proofs.CircleLemmas.{start-is-item}
use Rattle.ft_core.proofs.circle.circle_through.Goals as goal

pub begin-requires : goal.begin-requires
begin-requires c = start-is-item c.args.reads.now c.args.start c.args.start c.requires.leads
