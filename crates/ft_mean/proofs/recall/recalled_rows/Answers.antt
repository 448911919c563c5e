use Rattle.ft_mean.specs.judge.Scope.{reading_by}
use Rattle.ft_mean.specs.judge.Seen.{recalled_at}
use Rattle.ft_mean.proofs.RecallLemmas.{made_next}
use Rattle.ft_mean.proofs.recall.recalled_rows.Goals as goal

pub loop-scan-preserved : goal.loop-scan-preserved
loop-scan-preserved c =
    made_next (recalled_at c.args.known.now.tables.now (reading_by c.args.known.now.tables.now c.args.known.now.scope
    c.args.known.now.scans.now) c.args.seen.now) c.loop-scan.bits c.push.new.self c.loop-scan.scan c.in_ok-recalled_row.field-0
    c.loop-scan.invariant c.in_ok-recalled_row.ensures c.in_ok-push.ensures.ok
