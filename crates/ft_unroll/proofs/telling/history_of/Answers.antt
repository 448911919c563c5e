use Rattle.std.proofs.Common.{◌∙◌, ap, [], ◌∷◌, ◌++◌}
use Rattle.ft_unroll.proofs.TellLemmas.{rows-more}
use Rattle.ft_unroll.proofs.telling.history_of.Goals as goal

pub loop-scan-preserved : goal.loop-scan-preserved
loop-scan-preserved c =
    rows-more c.args.tables.now c.args.names.now c.args.values.now c.loop-scan.scan c.base_of-base.result c.loop-scan.history
    c.add.new.self c.in_ok-row.row c.base_of-base.ensures.value c.in_ok-row.ensures c.loop-scan.invariant
    (c.in_ok-add.ensures.ok ∙ ap (λ r. c.loop-scan.history ++ r ∷ []) c.as_slice.ensures)
