use Rattle.std.proofs.Common.{subst, sym}
use Rattle.std.proofs.lemmas.Result.{err_from_is_err_and}
use Rattle.ft_admit.specs.meaning.SetFaults.{IsSetOfText}
use Rattle.ft_cli.proofs.judging.proper_set.Goals as goal

pub returns-in_err-kept-clause-stopped : goal.returns-in_err-kept-clause-stopped
returns-in_err-kept-clause-stopped c =
    let p = err_from_is_err_and c.from_residual-in_err-kept.result c.from_residual-in_err-kept.ensures.1 in
    let means = c.in_err-kept.ensures.stopped c.args.text.now c.in_ok-tables.ensures.admitted.spelled in
    rw (p.1, p.2) means

pub returns-clause-set : goal.returns-clause-set
returns-clause-set c =
    subst (IsSetOfText c.args.text.now) (sym c.in_ok-kept.ensures.same) c.in_ok-tables.ensures.admitted.spelled
