use Rattle.std.proofs.Common.{◌+◌, take, drop, flat_map}
use Rattle.std.proofs.lemmas.Result.{err_from_is_err_and}
use Rattle.ft_names.specs.meaning.Declared.{fact_words}
use Rattle.ft_names.specs.laws.Lists.{flat_next, flat_whole}
use Rattle.ft_names.proofs.DeclareLemmas.{declared-made, declared-none, declared-room, declared-stops}
use Rattle.ft_names.proofs.declare.declare_facts.Goals as goal

pub declare_fact-requires : goal.declare_fact-requires
declare_fact-requires c =
    let i = c.loop-fact.fact-index in
    declared-room c.args.names.now c.loop-fact.names c.args.number (flat_map fact_words (take i c.args.facts.now))
    (fact_words c.fact-item.result)
    (flat_map fact_words (take (i + 1) c.args.facts.now)) (flat_map fact_words (drop (i + 1) c.args.facts.now))
    (flat_map fact_words c.args.facts.now)
    (flat_next fact_words c.args.facts.now i c.fact-item.result c.loop-fact-test.true c.fact-item.is)
    (flat_whole fact_words c.args.facts.now (i + 1))
    c.loop-fact.invariant.made c.requires

pub returns-in_err-declare_fact-clause-answers : goal.returns-in_err-declare_fact-clause-answers
returns-in_err-declare_fact-clause-answers c =
    let p = err_from_is_err_and c.from_residual.result c.from_residual.ensures.1 in
    let i = c.loop-fact.fact-index in
    rw (p.1, p.2)
    (declared-stops c.in_err-declare_fact.field-0.0 c.args.names.now c.loop-fact.names c.args.number
    (flat_map fact_words (take i c.args.facts.now)) (fact_words c.fact-item.result)
    (flat_map fact_words (take (i + 1) c.args.facts.now)) (flat_map fact_words (drop (i + 1) c.args.facts.now))
    (flat_map fact_words c.args.facts.now)
    (flat_next fact_words c.args.facts.now i c.fact-item.result c.loop-fact-test.true c.fact-item.is)
    (flat_whole fact_words c.args.facts.now (i + 1))
    c.loop-fact.invariant.made c.loop-fact.invariant.none c.in_err-declare_fact.ensures.answers)

pub loop-fact-preserved : goal.loop-fact-preserved
loop-fact-preserved c =
    let i = c.loop-fact.fact-index in
    let next = flat_next fact_words c.args.facts.now i c.fact-item.result c.loop-fact-test.true c.fact-item.is in
    record {
      made = declared-made c.args.names.now c.loop-fact.names c.declare_fact.new.names c.args.number
          (flat_map fact_words (take i c.args.facts.now)) (fact_words c.fact-item.result)
          (flat_map fact_words (take (i + 1) c.args.facts.now)) next c.loop-fact.invariant.made c.in_ok-declare_fact.ensures.added;
      none = declared-none c.args.names.now c.loop-fact.names c.args.number
          (flat_map fact_words (take i c.args.facts.now)) (fact_words c.fact-item.result)
          (flat_map fact_words (take (i + 1) c.args.facts.now)) next c.loop-fact.invariant.made c.loop-fact.invariant.none
          c.in_ok-declare_fact.ensures.answers;
    }
