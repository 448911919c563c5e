use Rattle.std.proofs.Common.{◌<◌, ◌∙◌, ap, sym, arith, length, [], Some}
use Rattle.std.proofs.lemmas.Option.{slice_get-get_or}
use Rattle.ft_cover.specs.building.Places.{normal_row}
use Rattle.ft_cover.proofs.SafeLemmas.{row_safe}
use Rattle.ft_cover.proofs.WalkLemmas.{next, ended}
use Rattle.ft_cover.proofs.placing.normal_places.Goals as goal

pub loop-row-preserved : goal.loop-row-preserved
loop-row-preserved g c =
    let within : c.loop-row.row < length c.args.rows.now = omega (arith, c.loop-row-test.true, c.min-row-end.ensures) in
    let within' : c.loop-row.row < length c.args.terms.now = omega (arith, c.loop-row-test.true, c.min-row-end.ensures) in
    next (normal_row c.args.vars.now (g.L.Look.view c.args.look.now) c.args.wanted c.args.target c.args.columns.now)
    c.args.rows.now c.args.terms.now c.loop-row.row c.index-rows-row.result c.as_slice-its_terms.result.now [] c.loop-row.places
    c.add_headed.new.places
    (slice_get-get_or c.args.rows.now c.loop-row.row c.index-rows-row.result within ∙ ap Some (sym c.index-rows-row.is))
    (slice_get-get_or c.args.terms.now c.loop-row.row c.index-terms-row.result within' ∙ ap Some (sym c.index-terms-row.is
    ∙ sym c.as_slice-its_terms.ensures))
    c.loop-row.invariant c.in_ok-add_headed.ensures

pub returns : goal.returns
returns g c = ended (normal_row c.args.vars.now (g.L.Look.view c.args.look.now) c.args.wanted c.args.target c.args.columns.now)
    c.args.rows.now c.args.terms.now c.loop-row.row [] c.loop-row.places
    (omega (arith, c.loop-row-test.false, c.min-row-end.ensures)) c.loop-row.invariant

pub add_headed-requires-clause-terms : goal.add_headed-requires-clause-terms
add_headed-requires-clause-terms g c =
    let within : c.loop-row.row < length c.args.terms.now = omega (arith, c.loop-row-test.true, c.min-row-end.ensures) in
    row_safe c.laws.ensures (g.L.Look.view c.args.look.now) c.args.terms.now c.loop-row.row c.as_slice-its_terms.result.now
    (slice_get-get_or c.args.terms.now c.loop-row.row c.index-terms-row.result within ∙ ap Some (sym c.index-terms-row.is
    ∙ sym c.as_slice-its_terms.ensures)) c.requires.terms
