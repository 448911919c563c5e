use Rattle.std.proofs.lemmas.Result.{err_from_is_err_and}
use Rattle.ft_names.specs.meaning.First.{first_of}
use Rattle.ft_names.specs.meaning.Spots.{item_spots}
use Rattle.ft_names.specs.laws.First.{first_more, stops_at}
use Rattle.ft_names.proofs.walk.judge_items.Goals as goal

pub returns-in_err-judge_item : goal.returns-in_err-judge_item
returns-in_err-judge_item g c =
    let p = err_from_is_err_and c.from_residual.result c.from_residual.ensures.1 in
    rw (p.1, p.2)
    (stops_at c.in_err-judge_item.field-0.0 (λ x. first_of (g.J.Judge.test c.args.judge.now)
    (item_spots x)) c.args.items.now c.loop-item.item-index c.item-item.result
    c.loop-item-test.true c.item-item.is c.loop-item.invariant c.in_err-judge_item.ensures)

pub loop-item-preserved : goal.loop-item-preserved
loop-item-preserved g c =
    first_more (λ x. first_of (g.J.Judge.test c.args.judge.now) (item_spots x)) c.args.items.now c.loop-item.item-index c.item-item.result
    c.loop-item-test.true c.item-item.is c.loop-item.invariant c.in_ok-judge_item.ensures
