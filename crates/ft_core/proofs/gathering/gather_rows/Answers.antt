use Rattle.std.proofs.Common.{◌<◌, ◌∙◌, ap, sym, arith, length, slice_index_or, Some}
use Rattle.std.proofs.lemmas.Option.{slice_get-get_or}
use Rattle.ft_core.proofs.GatherLemmas.{rows-next, rows-end}
use Rattle.ft_core.proofs.gathering.gather_rows.Goals as goal

pub loop-at-preserved : goal.loop-at-preserved
loop-at-preserved c =
    let within : c.loop-at.at < length c.args.targets.now = omega (arith, c.loop-at-test.true, c.min-at-end.ensures) in
    let within' : c.loop-at.at < length c.args.terms.now = omega (arith, c.loop-at-test.true, c.min-at-end.ensures) in
    rows-next c.args.counts.vars c.args.counts.memories c.args.columns.now c.args.targets.now c.args.terms.now c.loop-at.at
    (slice_index_or c.args.targets.now c.loop-at.at 0) c.index-terms-at.result
    c.as_slice.result.now c.args.lists.now.items c.loop-at.lists.items c.gather_row.new.lists.items
    (slice_get-get_or c.args.targets.now c.loop-at.at 0 within)
    (slice_get-get_or c.args.terms.now c.loop-at.at c.index-terms-at.result within' ∙ ap Some (sym c.index-terms-at.is)) c.as_slice.ensures
    c.loop-at.invariant c.in_ok-gather_row.ensures

pub returns : goal.returns
returns c = rows-end c.args.counts.vars c.args.counts.memories c.args.columns.now c.args.targets.now c.args.terms.now c.loop-at.at
    c.args.lists.now.items c.loop-at.lists.items
    (omega (arith, c.loop-at-test.false, c.min-at-end.ensures)) c.loop-at.invariant
