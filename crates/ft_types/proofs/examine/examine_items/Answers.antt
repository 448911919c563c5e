use Rattle.std.proofs.lemmas.Result.{err_from_is_err_and}
use Rattle.ft_names.specs.laws.First.{first_more, stops_at}
use Rattle.ft_types.proofs.examine.examine_items.Goals as goal

pub returns-in_err-item : goal.returns-in_err-item
returns-in_err-item g c =
    let p = err_from_is_err_and c.from_residual.result c.from_residual.ensures.1 in
    rw (p.1, p.2)
    (stops_at c.in_err-item.field-0.0 (g.E.Examine.test c.args.examiner.now) c.args.items.now c.loop-item.item-index c.item-item.result
    c.loop-item-test.true c.item-item.is c.loop-item.invariant c.in_err-item.ensures)

pub loop-item-preserved : goal.loop-item-preserved
loop-item-preserved g c =
    first_more (g.E.Examine.test c.args.examiner.now) c.args.items.now c.loop-item.item-index c.item-item.result
    c.loop-item-test.true c.item-item.is c.loop-item.invariant c.in_ok-item.ensures
