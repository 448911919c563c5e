use Rattle.std.proofs.lemmas.Result.{err_from_is_err_and}
use Rattle.ft_names.specs.meaning.Spots.{condition}
use Rattle.ft_names.specs.laws.First.{first_more, stops_at}
use Rattle.ft_names.proofs.walk.judge_conditions.Goals as goal

pub returns-in_err-condition : goal.returns-in_err-condition
returns-in_err-condition g c =
    let p = err_from_is_err_and c.from_residual.result c.from_residual.ensures.1 in
    rw (p.1, p.2)
    (stops_at c.in_err-condition.field-0.0 (λ x. g.J.Judge.test c.args.judge.now
    (condition c.args.site x)) c.args.exprs.now c.loop-expr.expr-index c.expr-item.result
    c.loop-expr-test.true c.expr-item.is c.loop-expr.invariant c.in_err-condition.ensures)

pub loop-expr-preserved : goal.loop-expr-preserved
loop-expr-preserved g c =
    first_more (λ x. g.J.Judge.test c.args.judge.now (condition c.args.site x)) c.args.exprs.now c.loop-expr.expr-index c.expr-item.result
    c.loop-expr-test.true c.expr-item.is c.loop-expr.invariant c.in_ok-condition.ensures
