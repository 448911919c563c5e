use Rattle.std.proofs.Common.{sym, arith, length}
use Rattle.ft_mean.specs.judge.Scope.{is_right}
use Rattle.ft_mean.proofs.RecallLemmas.{through_next, all_not}
use Rattle.ft_mean.proofs.judge.follows_at.Goals as goal

pub returns-then-not-is_right : goal.returns-then-not-is_right
returns-then-not-is_right c = sym (all_not (is_right c.args.tables.now c.args.side c.args.given.now c.args.trace.now c.args.seen.now
    c.args.scan) 0 (length c.args.tables.now.vars) c.loop-variable.variable (omega arith)
    (omega (arith, c.loop-variable-test.true, c.len-variable-end.ensures)) (sym c.if-not-is_right.ensures))

pub loop-variable-preserved : goal.loop-variable-preserved
loop-variable-preserved c = through_next (is_right c.args.tables.now c.args.side c.args.given.now c.args.trace.now c.args.seen.now
    c.args.scan) c.loop-variable.variable c.loop-variable.invariant (sym c.if-not-is_right.ensures)
