use Rattle.std.proofs.Common.{◌<◌, ◌∙◌, ap, sym, arith, length, [], slice_index_or, Some}
use Rattle.std.proofs.lemmas.Option.{slice_get-get_or}
use Rattle.ft_cover.specs.building.Places.{vector_row}
use Rattle.ft_cover.proofs.SafeLemmas.{row_safe}
use Rattle.ft_cover.proofs.WalkLemmas.{next, ended}
use Rattle.ft_cover.proofs.placing.vector_places.Goals as goal

pub loop-row-preserved : goal.loop-row-preserved
loop-row-preserved g c =
    let within : c.loop-row.row < length c.args.targets.now = omega (arith, c.loop-row-test.true, c.min-row-end.ensures) in
    let within' : c.loop-row.row < length c.args.terms.now = omega (arith, c.loop-row-test.true, c.min-row-end.ensures) in
    next (vector_row c.args.vars.now (g.L.Look.view c.args.look.now) c.args.wanted c.args.columns.now)
    c.args.targets.now c.args.terms.now c.loop-row.row (slice_index_or c.args.targets.now c.loop-row.row 0) c.as_slice-its_terms.result.now
    [] c.loop-row.places c.add_cells.new.places
    (slice_get-get_or c.args.targets.now c.loop-row.row 0 within)
    (slice_get-get_or c.args.terms.now c.loop-row.row c.index-terms-row.result within' ∙ ap Some (sym c.index-terms-row.is
    ∙ sym c.as_slice-its_terms.ensures))
    c.loop-row.invariant c.in_ok-add_cells.ensures

pub returns : goal.returns
returns g c = ended (vector_row c.args.vars.now (g.L.Look.view c.args.look.now) c.args.wanted c.args.columns.now)
    c.args.targets.now c.args.terms.now c.loop-row.row [] c.loop-row.places
    (omega (arith, c.loop-row-test.false, c.min-row-end.ensures)) c.loop-row.invariant

pub add_cells-requires-clause-terms : goal.add_cells-requires-clause-terms
add_cells-requires-clause-terms g c =
    let within : c.loop-row.row < length c.args.terms.now = omega (arith, c.loop-row-test.true, c.min-row-end.ensures) in
    row_safe c.laws.ensures (g.L.Look.view c.args.look.now) c.args.terms.now c.loop-row.row c.as_slice-its_terms.result.now
    (slice_get-get_or c.args.terms.now c.loop-row.row c.index-terms-row.result within ∙ ap Some (sym c.index-terms-row.is
    ∙ sym c.as_slice-its_terms.ensures)) c.requires.terms
