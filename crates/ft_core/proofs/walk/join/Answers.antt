use Rattle.ft_core.proofs.WalkLemmas.{join-more}
use Rattle.ft_core.proofs.walk.join.Goals as goal

pub components-preserved : goal.components-preserved
components-preserved c =
    join-more c.args.at c.args.components.now c.components.components c.truncate.new.self c.top.result c.len.result c.components.invariant
    c.top.ensures c.components-test.true
    c.len.ensures c.truncate.ensures
