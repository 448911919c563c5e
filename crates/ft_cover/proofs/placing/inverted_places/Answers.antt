use Rattle.std.proofs.Common.{◌<◌, ◌∙◌, ap, sym, arith, length, [], Some}
use Rattle.std.proofs.lemmas.Option.{slice_get-get_or}
use Rattle.ft_cover.specs.building.Places.{inverted_row}
use Rattle.ft_cover.proofs.SafeLemmas.{conds_safe}
use Rattle.ft_cover.proofs.WalkLemmas.{next, ended}
use Rattle.ft_cover.proofs.placing.inverted_places.Goals as goal

pub loop-row-preserved : goal.loop-row-preserved
loop-row-preserved g c =
    let within : c.loop-row.row < length c.args.rows.now = omega (arith, c.loop-row-test.true, c.min-row-end.ensures) in
    let within' : c.loop-row.row < length c.args.grid.now = omega (arith, c.loop-row-test.true, c.min-row-end.ensures) in
    next (inverted_row c.args.vars.now (g.L.Look.view c.args.look.now) c.args.wanted c.args.target c.args.terms.now)
    c.args.rows.now c.args.grid.now c.loop-row.row c.index-rows-row.result c.as_slice-conds.result.now [] c.loop-row.places
    c.add_headed.new.places
    (slice_get-get_or c.args.rows.now c.loop-row.row c.index-rows-row.result within ∙ ap Some (sym c.index-rows-row.is))
    (slice_get-get_or c.args.grid.now c.loop-row.row c.index-grid-row.result within' ∙ ap Some (sym c.index-grid-row.is
    ∙ sym c.as_slice-conds.ensures))
    c.loop-row.invariant c.in_ok-add_headed.ensures

pub returns : goal.returns
returns g c = ended (inverted_row c.args.vars.now (g.L.Look.view c.args.look.now) c.args.wanted c.args.target c.args.terms.now)
    c.args.rows.now c.args.grid.now c.loop-row.row [] c.loop-row.places
    (omega (arith, c.loop-row-test.false, c.min-row-end.ensures)) c.loop-row.invariant

pub add_headed-requires-clause-conds : goal.add_headed-requires-clause-conds
add_headed-requires-clause-conds g c =
    let within : c.loop-row.row < length c.args.grid.now = omega (arith, c.loop-row-test.true, c.min-row-end.ensures) in
    conds_safe c.laws.ensures (g.L.Look.view c.args.look.now) c.args.grid.now c.loop-row.row c.as_slice-conds.result.now
    (slice_get-get_or c.args.grid.now c.loop-row.row c.index-grid-row.result within ∙ ap Some (sym c.index-grid-row.is
    ∙ sym c.as_slice-conds.ensures)) c.requires.grid
