use Rattle.std.proofs.Common.{sym, arith, suc, ◌-◌}
use Rattle.ft_mean.specs.judge.Seen.{view_at}
use Rattle.ft_mean.specs.meaning.Value.{truth}
use Rattle.ft_mean.proofs.RecallLemmas.{all_next, all_not}
use Rattle.ft_mean.proofs.recall.is_true_from.Goals as goal

pub returns-then-not-truth_of : goal.returns-then-not-truth_of
returns-then-not-truth_of c =
    sym (all_not (λ j. truth (view_at c.args.seen.now j) c.args.cond.now) c.args.from (suc c.args.to - c.args.from) c.loop-scan.scan
    c.loop-scan.auto.scan (omega (arith, c.loop-scan.auto.scan, c.loop-scan-test.true)) (sym (c.if-not-truth_of.ensures)))

pub loop-scan-preserved : goal.loop-scan-preserved
loop-scan-preserved c =
    all_next (λ j. truth (view_at c.args.seen.now j) c.args.cond.now) c.args.from c.loop-scan.scan c.loop-scan.auto.scan
    c.loop-scan.invariant (sym c.if-not-truth_of.ensures)
