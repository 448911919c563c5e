use Rattle.std.proofs.Common.{sym, arith, length}
use Rattle.ft_mean.specs.judge.Scope.{kinds_of, is_row}
use Rattle.ft_mean.proofs.RecallLemmas.{through_next, all_not}
use Rattle.ft_mean.proofs.judge.is_list.Goals as goal

pub returns-then-not-is_row : goal.returns-then-not-is_row
returns-then-not-is_row c = sym (all_not (is_row c.args.tables.now (kinds_of c.args.scope) c.args.scans.now) 0 (length c.args.scans.now)
    c.loop-scan.scan (omega arith) (omega (arith, c.loop-scan-test.true, c.scans-scan-end.ensures)) (sym c.if-not-is_row.ensures))

pub loop-scan-preserved : goal.loop-scan-preserved
loop-scan-preserved c = through_next (is_row c.args.tables.now (kinds_of c.args.scope) c.args.scans.now) c.loop-scan.scan
    c.loop-scan.invariant (sym c.if-not-is_row.ensures)
