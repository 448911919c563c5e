use Rattle.std.proofs.lemmas.Result.{err_from_is_err_and}
use Rattle.ft_names.specs.meaning.First.{first_of}
use Rattle.ft_names.specs.meaning.Spots.{fact_spots}
use Rattle.ft_names.specs.laws.First.{first_more, stops_at}
use Rattle.ft_names.proofs.walk.judge_facts.Goals as goal

pub returns-in_err-judge_fact : goal.returns-in_err-judge_fact
returns-in_err-judge_fact g c =
    let p = err_from_is_err_and c.from_residual.result c.from_residual.ensures.1 in
    rw (p.1, p.2)
    (stops_at c.in_err-judge_fact.field-0.0 (λ x. first_of (g.J.Judge.test c.args.judge.now)
    (fact_spots x)) c.args.facts.now c.loop-fact.fact-index c.fact-item.result
    c.loop-fact-test.true c.fact-item.is c.loop-fact.invariant c.in_err-judge_fact.ensures)

pub loop-fact-preserved : goal.loop-fact-preserved
loop-fact-preserved g c =
    first_more (λ x. first_of (g.J.Judge.test c.args.judge.now) (fact_spots x)) c.args.facts.now c.loop-fact.fact-index c.fact-item.result
    c.loop-fact-test.true c.fact-item.is c.loop-fact.invariant c.in_ok-judge_fact.ensures
