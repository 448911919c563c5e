use Rattle.std.proofs.Common.{sym, arith, length}
use Rattle.ft_mean.specs.judge.Scope.{at_all, is_right}
use Rattle.ft_mean.proofs.RecallLemmas.{through_next, all_not}
use Rattle.ft_mean.proofs.judge.follows.Goals as goal

pub returns-then-not-follows_at : goal.returns-then-not-follows_at
returns-then-not-follows_at c = sym (all_not (λ t. at_all c.args.tables.now
    (is_right c.args.tables.now c.args.side c.args.given.now c.args.trace.now c.args.seen.now t)) 0 (length c.args.trace.now)
    c.loop-scan.scan (omega arith) (omega (arith, c.loop-scan-test.true, c.scans-scan-end.ensures)) (sym c.if-not-follows_at.ensures))

pub loop-scan-preserved : goal.loop-scan-preserved
loop-scan-preserved c = through_next (λ t. at_all c.args.tables.now (is_right c.args.tables.now c.args.side c.args.given.now
    c.args.trace.now c.args.seen.now t)) c.loop-scan.scan c.loop-scan.invariant (sym c.if-not-follows_at.ensures)
