use Rattle.std.proofs.Common.{arith}
use Rattle.ft_core.proofs.ClosingLemmas.{closes, items-below, items-staged, items-once}
use Rattle.ft_core.proofs.walk.Walk.close.Goals as goal

pub least_after-self-requires : goal.least_after-self-requires
least_after-self-requires c =
    let w = c.args.self.now in
    items-below c.args.reads.now w.stages w.path w.components w.pending w.order w.least c.requires.walk c.top-first.result.first
    c.rest-items.result.now c.rest-items.ensures

pub finish-requires-clause-items : goal.finish-requires-clause-items
finish-requires-clause-items c =
    let w = c.args.self.now in
    items-staged c.args.reads.now w.stages w.path w.components w.pending w.order w.least c.requires.walk c.top-first.result.first
    c.rest-items.result.now c.rest-items.ensures

pub finish-requires-clause-once : goal.finish-requires-clause-once
finish-requires-clause-once c =
    let w = c.args.self.now in
    items-once c.args.reads.now w.stages w.path w.components w.pending w.order w.least c.requires.walk c.top-first.result.first
    c.rest-items.result.now c.rest-items.ensures

pub returns-clause-walk : goal.returns-clause-walk
returns-clause-walk c =
    let w = c.args.self.now in (
    closes c.args.reads.now w.stages w.path w.components w.pending w.order w.least c.requires.walk c.top-first.result c.top-first.ensures
    (c.requires.none c.top-first.result c.top-first.ensures) c.finish.new.stages c.finish.new.order c.least_after-self.result
    c.rest-items.result.now
    c.truncate.new.self c.truncate-2.new.self c.len.result c.rest-items.ensures c.in_ok-finish.ensures c.least_after-self.ensures
    c.truncate.ensures
    c.len.ensures c.truncate-2.ensures).0

pub returns-clause-advances : goal.returns-clause-advances
returns-clause-advances c =
    let w = c.args.self.now in (
    closes c.args.reads.now w.stages w.path w.components w.pending w.order w.least c.requires.walk c.top-first.result c.top-first.ensures
    (c.requires.none c.top-first.result c.top-first.ensures) c.finish.new.stages c.finish.new.order c.least_after-self.result
    c.rest-items.result.now
    c.truncate.new.self c.truncate-2.new.self c.len.result c.rest-items.ensures c.in_ok-finish.ensures c.least_after-self.ensures
    c.truncate.ensures
    c.len.ensures c.truncate-2.ensures).1

pub returns-clause-less : goal.returns-clause-less
returns-clause-less c =
    let w = c.args.self.now in
    let all =
    closes c.args.reads.now w.stages w.path w.components w.pending w.order w.least c.requires.walk c.top-first.result c.top-first.ensures
    (c.requires.none c.top-first.result c.top-first.ensures) c.finish.new.stages c.finish.new.order c.least_after-self.result
    c.rest-items.result.now
    c.truncate.new.self c.truncate-2.new.self c.len.result c.rest-items.ensures c.in_ok-finish.ensures c.least_after-self.ensures
    c.truncate.ensures
    c.len.ensures c.truncate-2.ensures in
    omega (arith, all.2, all.3)
