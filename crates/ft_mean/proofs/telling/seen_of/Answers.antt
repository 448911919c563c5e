use Rattle.std.proofs.Common.{◌∙◌, length, map}
use Rattle.std.specs.List.{range_with_len}
use Rattle.ft_mean.specs.judge.Scope.{kinds_of}
use Rattle.ft_mean.specs.meaning.Reading.{reading_of, before}
use Rattle.ft_mean.proofs.RecallLemmas.{made_next}
use Rattle.ft_mean.proofs.telling.seen_of.Goals as goal

pub loop-scan-preserved : goal.loop-scan-preserved
loop-scan-preserved c = (
  made_next (λ t. map (reading_of c.args.tables.now (kinds_of c.args.scope) c.args.scans.now t)
      (range_with_len 0 (length c.args.tables.now.vars)))
      c.loop-scan.rows c.add.new.self c.loop-scan.scan c.as_slice.result.now c.loop-scan.invariant.0
      (c.as_slice.ensures ∙ c.in_ok-row_now.ensures) c.in_ok-add.ensures.ok,
  made_next (λ t. map (before c.args.tables.now (reading_of c.args.tables.now (kinds_of c.args.scope) c.args.scans.now) t)
      (range_with_len 0 (length c.args.tables.now.vars)))
      c.loop-scan.past c.add-in-loop-scan.new.self c.loop-scan.scan c.as_slice-in-loop-scan.result.now c.loop-scan.invariant.1
      (c.as_slice-in-loop-scan.ensures ∙ c.in_ok-row_before.ensures) c.in_ok-add-2.ensures.ok,
)
