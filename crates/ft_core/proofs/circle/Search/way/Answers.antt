use Rattle.std.proofs.Common.{sym, subst, List, ℕ}
use Rattle.ft_core.specs.walk.Circles.{IsWayBack}
use Rattle.ft_core.proofs.CircleLemmas.{back-more, circle-back}
use Rattle.ft_core.proofs.circle.Search.way.Goals as goal

pub back-preserved : goal.back-preserved
back-preserved c =
    let s = c.args.self.now in
    let longer = back-more c.args.reads.now c.args.start s.met s.parents s.seen c.requires.search c.args.end c.back.at c.back.items.items
    c.back.invariant c.get.result.now c.get.ensures c.get-at.result.now c.back-test.true c.get-at.ensures in
    subst (λ (l : List ℕ). IsWayBack c.args.reads.now s.met c.args.end c.get-at.result.now l) (sym c.in_ok-push.ensures.items) longer

pub returns-clause-circle : goal.returns-clause-circle
returns-clause-circle c =
    let s = c.args.self.now in (
    circle-back c.args.reads.now c.args.start s.met s.parents s.seen c.requires.search c.args.end c.back.at c.get-2.result.now
    c.back.items.items
    c.push-2.new.self.items c.reverse.new.self.items c.from_vec.result c.back.invariant c.back-test.false c.get-2.ensures c.requires.end
    c.in_ok-push-2.ensures.items c.reverse.ensures.items c.from_vec.ensures).0

pub returns-clause-start : goal.returns-clause-start
returns-clause-start c =
    let s = c.args.self.now in (
    circle-back c.args.reads.now c.args.start s.met s.parents s.seen c.requires.search c.args.end c.back.at c.get-2.result.now
    c.back.items.items
    c.push-2.new.self.items c.reverse.new.self.items c.from_vec.result c.back.invariant c.back-test.false c.get-2.ensures c.requires.end
    c.in_ok-push-2.ensures.items c.reverse.ensures.items c.from_vec.ensures).1
