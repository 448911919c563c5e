use Rattle.ft_mean.specs.judge.Scope.{reading_by}
use Rattle.ft_mean.proofs.RecallLemmas.{round_next, safe_again}
use Rattle.ft_mean.proofs.recall.recall.Goals as goal

pub recalled_rows-requires : goal.recalled_rows-requires
recalled_rows-requires c = safe_again c.args.start c.loop-round.seen c.requires c.loop-round.invariant.1 c.loop-round.invariant.2

pub loop-round-preserved : goal.loop-round-preserved
loop-round-preserved c = (
  round_next c.args.known.now.tables.now (reading_by c.args.known.now.tables.now c.args.known.now.scope c.args.known.now.scans.now)
      c.args.start c.loop-round.seen c.loop-round._round c.in_ok-seen.field-0 c.loop-round.invariant.0 c.in_ok-seen.ensures,
  c.loop-round.invariant.1,
  c.loop-round.invariant.2,
)
