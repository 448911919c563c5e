use Rattle.std.proofs.lemmas.Result.{err_from_is_err_and}
use Rattle.ft_names.proofs.FaultLemmas.{unknown-stops}
use Rattle.ft_names.proofs.resolving.resolve_items.Goals as goal

pub returns-in_err-judge_set-clause-answers : goal.returns-in_err-judge_set-clause-answers
returns-in_err-judge_set-clause-answers c =
    let p = err_from_is_err_and c.from_residual-in_err-judge_set.result c.from_residual-in_err-judge_set.ensures.1 in
    rw (p.1, p.2)
    (unknown-stops c.in_err-judge_set.field-0.0 c.args.items.now c.in_ok-names.names c.in_ok-need_variables.ensures
    c.in_ok-names.ensures.answers c.in_ok-names.ensures.names c.in_err-judge_set.ensures.answers)
