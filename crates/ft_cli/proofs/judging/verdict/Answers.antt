use Rattle.std.proofs.Common.{subst, sym}
use Rattle.std.proofs.lemmas.Result.{err_from_is_err_and}
use Rattle.ft_admit.specs.meaning.SetFaults.{IsSetOfText}
use Rattle.ft_cli.proofs.JudgingLemmas.{ended-judges, stopped-judges}
use Rattle.ft_cli.proofs.judging.verdict.Goals as goal

pub returns-in_err-tables-2-clause-stopped : goal.returns-in_err-tables-2-clause-stopped
returns-in_err-tables-2-clause-stopped c =
    let p = err_from_is_err_and c.from_residual-in_err-tables-2.result c.from_residual-in_err-tables-2.ensures.1 in
    let means = c.in_err-tables-2.ensures.stopped c.args.text.now c.in_ok-tables.ensures.admitted.spelled in
    rw (p.1, p.2) means

pub returns-clause-ended : goal.returns-clause-ended
returns-clause-ended c =
    ended-judges c.judged.result c.in_ok-tables-2.tables c.args.text.now
    (subst (IsSetOfText c.args.text.now) (sym c.in_ok-tables-2.ensures.same) c.in_ok-tables.ensures.admitted.spelled)
    c.judged.ensures.ended

pub returns-clause-stopped : goal.returns-clause-stopped
returns-clause-stopped c =
    stopped-judges c.judged.result c.in_ok-tables-2.tables c.args.text.now
    (subst (IsSetOfText c.args.text.now) (sym c.in_ok-tables-2.ensures.same) c.in_ok-tables.ensures.admitted.spelled)
    c.judged.ensures.stopped
