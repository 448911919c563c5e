use Rattle.ft_compose.proofs.MarkLemmas.{reach-more}
use Rattle.ft_compose.proofs.linking.reach_all.Goals as goal

pub loop-name-preserved : goal.loop-name-preserved
loop-name-preserved c =
    reach-more c.args.reached.now c.loop-name.reached c.reach.new.reached c.args.names.now c.loop-name.name-index 0 c.loop-name-test.true
    c.loop-name.invariant c.reach.ensures
