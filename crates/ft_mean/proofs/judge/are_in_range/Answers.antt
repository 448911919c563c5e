use Rattle.std.proofs.Common.{sym, arith, length}
use Rattle.ft_mean.specs.judge.Scope.{kinds_of, in_range}
use Rattle.ft_mean.proofs.RecallLemmas.{through_next, all_not}
use Rattle.ft_mean.proofs.judge.are_in_range.Goals as goal

pub returns-then-not-in_range : goal.returns-then-not-in_range
returns-then-not-in_range c = sym (all_not (in_range c.args.tables.now (kinds_of c.args.scope) c.args.scans.now c.args.scan) 0
    (length c.args.tables.now.vars) c.loop-variable.variable (omega arith)
    (omega (arith, c.loop-variable-test.true, c.len-variable-end.ensures)) (sym c.if-not-in_range.ensures))

pub loop-variable-preserved : goal.loop-variable-preserved
loop-variable-preserved c = through_next (in_range c.args.tables.now (kinds_of c.args.scope) c.args.scans.now c.args.scan)
    c.loop-variable.variable c.loop-variable.invariant (sym c.if-not-in_range.ensures)
