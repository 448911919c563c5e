use Rattle.std.proofs.Common.{◌<◌, ◌∙◌, ap, sym, arith, length, Some, []}
use Rattle.std.proofs.lemmas.Option.{slice_get-get_or}
use Rattle.ft_claims.specs.meaning.Coverage.{row_two}
use Rattle.ft_oblige.proofs.WalkLemmas.{map-next, map-end}
use Rattle.ft_oblige.proofs.nodes.rows_two.Goals as goal

pub loop-at-preserved : goal.loop-at-preserved
loop-at-preserved c =
    let within : c.loop-at.at < length c.args.rows.now = omega (arith, c.loop-at-test.true, c.min-at-end.ensures) in
    let within' : c.loop-at.at < length c.args.grid.now = omega (arith, c.loop-at-test.true, c.min-at-end.ensures) in
    map-next (row_two c.args.tables.now c.args.frame.now) c.args.rows.now c.args.grid.now c.loop-at.at c.index-rows-at.result
    c.as_slice.result.now [] c.loop-at.list c.push.new.self c.in_ok-claim.claim
    (slice_get-get_or c.args.rows.now c.loop-at.at c.index-rows-at.result within ∙ ap Some (sym c.index-rows-at.is))
    (slice_get-get_or c.args.grid.now c.loop-at.at c.index-grid-at.result within'
    ∙ ap Some (sym c.index-grid-at.is ∙ sym c.as_slice.ensures))
    c.loop-at.invariant c.in_ok-claim.ensures c.in_ok-push.ensures.ok

pub returns : goal.returns
returns c = map-end (row_two c.args.tables.now c.args.frame.now) c.args.rows.now c.args.grid.now c.loop-at.at [] c.loop-at.list
    (omega (arith, c.loop-at-test.false, c.min-at-end.ensures)) c.loop-at.invariant
