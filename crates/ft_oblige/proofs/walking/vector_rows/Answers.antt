use Rattle.std.proofs.Common.{◌<◌, ◌∙◌, ap, sym, arith, length, slice_index_or, Some}
use Rattle.std.proofs.lemmas.Option.{slice_get-get_or}
use Rattle.ft_oblige.specs.building.Stating.{vector_row}
use Rattle.ft_oblige.proofs.WalkLemmas.{flat-next, flat-end}
use Rattle.ft_oblige.proofs.walking.vector_rows.Goals as goal

pub loop-at-preserved : goal.loop-at-preserved
loop-at-preserved c =
    let within : c.loop-at.at < length c.args.targets.now = omega (arith, c.loop-at-test.true, c.min-at-end.ensures) in
    let within' : c.loop-at.at < length c.args.terms.now = omega (arith, c.loop-at-test.true, c.min-at-end.ensures) in
    flat-next (vector_row c.args.tables.now c.args.frame.now c.args.about c.args.columns.now)
    c.args.targets.now c.args.terms.now c.loop-at.at (slice_index_or c.args.targets.now c.loop-at.at 0) c.as_slice.result.now
    c.loop-at.list c.add_wanted.new.list
    (slice_get-get_or c.args.targets.now c.loop-at.at 0 within)
    (slice_get-get_or c.args.terms.now c.loop-at.at c.index-terms-at.result within'
    ∙ ap Some (sym c.index-terms-at.is ∙ sym c.as_slice.ensures))
    c.loop-at.invariant c.in_ok-add_wanted.ensures

pub returns : goal.returns
returns c = flat-end (vector_row c.args.tables.now c.args.frame.now c.args.about c.args.columns.now)
    c.args.targets.now c.args.terms.now c.loop-at.at c.loop-at.list (omega (arith, c.loop-at-test.false, c.min-at-end.ensures))
    c.loop-at.invariant
