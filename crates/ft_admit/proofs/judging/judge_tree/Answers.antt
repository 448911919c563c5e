use Rattle.std.proofs.lemmas.Result.{err_from_is_err_and}
use Rattle.ft_admit.proofs.ChainLemmas.{grids-stop, none-stops, numbers-stop, places-stop}
use Rattle.ft_admit.proofs.judging.judge_tree.Goals as goal

pub returns-in_err-judge_places-clause-answers : goal.returns-in_err-judge_places-clause-answers
returns-in_err-judge_places-clause-answers c =
    let p = err_from_is_err_and c.from_residual-in_err-judge_places.result c.from_residual-in_err-judge_places.ensures.1 in
    rw (p.1, p.2)
    (places-stop c.args.tree.now c.in_err-judge_places.field-0.0 c.in_ok-names.ensures.answers c.in_err-judge_places.ensures)

pub returns-in_err-judge_numbers-clause-answers : goal.returns-in_err-judge_numbers-clause-answers
returns-in_err-judge_numbers-clause-answers c =
    let p = err_from_is_err_and c.from_residual-in_err-judge_numbers.result c.from_residual-in_err-judge_numbers.ensures.1 in
    rw (p.1, p.2)
    (numbers-stop c.args.tree.now c.in_err-judge_numbers.field-0.0 c.in_ok-names.ensures.answers c.in_ok-judge_places.ensures
    c.in_err-judge_numbers.ensures)

pub returns-in_err-judge_grids-clause-answers : goal.returns-in_err-judge_grids-clause-answers
returns-in_err-judge_grids-clause-answers c =
    let p = err_from_is_err_and c.from_residual-in_err-judge_grids.result c.from_residual-in_err-judge_grids.ensures.1 in
    rw (p.1, p.2)
    (grids-stop c.args.tree.now c.in_err-judge_grids.field-0.0 c.in_ok-names.ensures.answers c.in_ok-judge_places.ensures
    c.in_ok-judge_numbers.ensures c.in_err-judge_grids.ensures)

pub returns-clause-answers : goal.returns-clause-answers
returns-clause-answers c = none-stops c.args.tree.now c.in_ok-names.ensures.answers c.in_ok-judge_places.ensures
    c.in_ok-judge_numbers.ensures c.in_ok-judge_grids.ensures
