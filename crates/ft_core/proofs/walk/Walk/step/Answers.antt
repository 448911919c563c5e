use Rattle.std.proofs.Common.{◌-◌}
use Rattle.ft_core.proofs.WalkLemmas.{popped}
use Rattle.ft_core.proofs.walk.Walk.step.Goals as goal

pub follow-requires-clause-walk : goal.follow-requires-clause-walk
follow-requires-clause-walk c =
    let w = c.args.self.now in
    popped c.args.reads.now w.stages w.path w.components w.pending w.order w.least c.requires.walk c.top.result c.len-count.result
    c.get-item.result.now
    c.truncate.new.self c.top.ensures c.len-count.ensures c.if-top-count.true c.get-item.ensures c.truncate.ensures

pub follow-requires-clause-item : goal.follow-requires-clause-item
follow-requires-clause-item c =
    let r = c.requires.walk.reader c.get-item.result.now (c.len-count.result - 1) c.get-item.ensures in
    c.requires.bounded r.0 c.get-item.result.now r.3
