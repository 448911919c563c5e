use Rattle.std.proofs.lemmas.Result.{err_from_is_err_and}
use Rattle.ft_names.specs.meaning.Spots.{term_for}
use Rattle.ft_names.specs.laws.First.{first_more, stops_at}
use Rattle.ft_names.proofs.walk.judge_terms.Goals as goal

pub returns-in_err-term_for : goal.returns-in_err-term_for
returns-in_err-term_for g c =
    let p = err_from_is_err_and c.from_residual.result c.from_residual.ensures.1 in
    rw (p.1, p.2)
    (stops_at c.in_err-term_for.field-0.0 (λ x. g.J.Judge.test c.args.judge.now
    (term_for c.args.site c.args.word.now x)) c.args.exprs.now c.loop-expr.expr-index c.expr-item.result
    c.loop-expr-test.true c.expr-item.is c.loop-expr.invariant c.in_err-term_for.ensures)

pub loop-expr-preserved : goal.loop-expr-preserved
loop-expr-preserved g c =
    first_more (λ x. g.J.Judge.test c.args.judge.now (term_for c.args.site c.args.word.now x)) c.args.exprs.now c.loop-expr.expr-index
    c.expr-item.result
    c.loop-expr-test.true c.expr-item.is c.loop-expr.invariant c.in_ok-term_for.ensures
