use Rattle.std.proofs.Common.{◌<◌, ◌∙◌, ap, sym, arith, length, Some}
use Rattle.std.proofs.lemmas.Option.{slice_get-get_or}
use Rattle.ft_cover.specs.building.Places.{column_places}
use Rattle.ft_cover.proofs.WalkLemmas.{next, ended}
use Rattle.ft_cover.proofs.placing.add_cells.Goals as goal

pub loop-column-preserved : goal.loop-column-preserved
loop-column-preserved g c =
    let within : c.loop-column.column < length c.args.conds.now = omega (arith, c.loop-column-test.true, c.min-column-end.ensures) in
    let within' : c.loop-column.column < length c.args.terms.now = omega (arith, c.loop-column-test.true, c.min-column-end.ensures) in
    next (column_places c.args.vars.now (g.L.Look.view c.args.look.now) c.args.wanted c.args.target c.args.row)
    c.args.conds.now c.args.terms.now c.loop-column.column c.index-conds-column.result c.index-terms-column.result c.args.places.now
    c.loop-column.places c.add_cell.new.places
    (slice_get-get_or c.args.conds.now c.loop-column.column c.index-conds-column.result within ∙ ap Some (sym c.index-conds-column.is))
    (slice_get-get_or c.args.terms.now c.loop-column.column c.index-terms-column.result within' ∙ ap Some (sym c.index-terms-column.is))
    c.loop-column.invariant c.in_ok-add_cell.ensures

pub returns : goal.returns
returns g c = ended (column_places c.args.vars.now (g.L.Look.view c.args.look.now) c.args.wanted c.args.target c.args.row)
    c.args.conds.now c.args.terms.now c.loop-column.column c.args.places.now c.loop-column.places
    (omega (arith, c.loop-column-test.false, c.min-column-end.ensures)) c.loop-column.invariant
