use Rattle.std.proofs.Common.{◌<◌, ◌∙◌, ap, sym, arith, length, Some}
use Rattle.std.proofs.lemmas.Option.{slice_get-get_or}
use Rattle.ft_oblige.specs.building.Stating.{normal_row}
use Rattle.ft_oblige.proofs.WalkLemmas.{flat-next, flat-end}
use Rattle.ft_oblige.proofs.walking.normal_rows.Goals as goal

pub loop-at-preserved : goal.loop-at-preserved
loop-at-preserved c =
    let within : c.loop-at.at < length c.args.rows.now = omega (arith, c.loop-at-test.true, c.min-at-end.ensures) in
    let within' : c.loop-at.at < length c.args.terms.now = omega (arith, c.loop-at-test.true, c.min-at-end.ensures) in
    flat-next (normal_row c.args.tables.now c.args.frame.now c.args.aim.about c.args.aim.target c.args.columns.now)
    c.args.rows.now c.args.terms.now c.loop-at.at c.index-rows-at.result c.as_slice-row_terms.result.now
    c.loop-at.list c.add_headed.new.list
    (slice_get-get_or c.args.rows.now c.loop-at.at c.index-rows-at.result within ∙ ap Some (sym c.index-rows-at.is))
    (slice_get-get_or c.args.terms.now c.loop-at.at c.index-terms-at.result within'
    ∙ ap Some (sym c.index-terms-at.is ∙ sym c.as_slice-row_terms.ensures))
    c.loop-at.invariant c.in_ok-add_headed.ensures

pub returns : goal.returns
returns c = flat-end (normal_row c.args.tables.now c.args.frame.now c.args.aim.about c.args.aim.target c.args.columns.now)
    c.args.rows.now c.args.terms.now c.loop-at.at c.loop-at.list (omega (arith, c.loop-at-test.false, c.min-at-end.ensures))
    c.loop-at.invariant
