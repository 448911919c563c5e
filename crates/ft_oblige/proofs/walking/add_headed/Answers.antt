use Rattle.std.proofs.Common.{◌<◌, ◌∙◌, ap, sym, arith, length, Some}
use Rattle.std.proofs.lemmas.Option.{slice_get-get_or}
use Rattle.ft_oblige.specs.building.Stating.{headed_one}
use Rattle.ft_oblige.proofs.WalkLemmas.{map-next, map-end}
use Rattle.ft_oblige.proofs.walking.add_headed.Goals as goal

pub loop-at-preserved : goal.loop-at-preserved
loop-at-preserved c =
    let within : c.loop-at.at < length c.args.conds.now = omega (arith, c.loop-at-test.true, c.min-at-end.ensures) in
    let within' : c.loop-at.at < length c.args.terms.now = omega (arith, c.loop-at-test.true, c.min-at-end.ensures) in
    map-next (headed_one c.args.tables.now c.args.frame.now c.args.aim.about c.args.aim.target c.args.row.now)
    c.args.conds.now c.args.terms.now c.loop-at.at c.index-conds-at.result c.index-terms-at.result c.args.list.now c.loop-at.list
    c.push.new.self c.in_ok-cell.cell
    (slice_get-get_or c.args.conds.now c.loop-at.at c.index-conds-at.result within ∙ ap Some (sym c.index-conds-at.is))
    (slice_get-get_or c.args.terms.now c.loop-at.at c.index-terms-at.result within' ∙ ap Some (sym c.index-terms-at.is))
    c.loop-at.invariant c.in_ok-cell.ensures c.in_ok-push.ensures.ok

pub returns : goal.returns
returns c = map-end (headed_one c.args.tables.now c.args.frame.now c.args.aim.about c.args.aim.target c.args.row.now)
    c.args.conds.now c.args.terms.now c.loop-at.at c.args.list.now c.loop-at.list
    (omega (arith, c.loop-at-test.false, c.min-at-end.ensures)) c.loop-at.invariant
