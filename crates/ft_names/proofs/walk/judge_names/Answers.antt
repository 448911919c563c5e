use Rattle.std.proofs.lemmas.Result.{err_from_is_err_and}
use Rattle.ft_names.specs.meaning.Spots.{named}
use Rattle.ft_names.specs.laws.First.{first_more, stops_at}
use Rattle.ft_names.proofs.walk.judge_names.Goals as goal

pub returns-in_err-named : goal.returns-in_err-named
returns-in_err-named g c =
    let p = err_from_is_err_and c.from_residual.result c.from_residual.ensures.1 in
    rw (p.1, p.2)
    (stops_at c.in_err-named.field-0.0 (λ x. g.J.Judge.test c.args.judge.now
    (named c.args.role x)) c.args.words.now c.loop-word.word-index c.word-item.result
    c.loop-word-test.true c.word-item.is c.loop-word.invariant c.in_err-named.ensures)

pub loop-word-preserved : goal.loop-word-preserved
loop-word-preserved g c =
    first_more (λ x. g.J.Judge.test c.args.judge.now (named c.args.role x)) c.args.words.now c.loop-word.word-index c.word-item.result
    c.loop-word-test.true c.word-item.is c.loop-word.invariant c.in_ok-named.ensures
