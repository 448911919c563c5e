use Rattle.std.proofs.Common.{arith, length, refl}
use Rattle.std.proofs.lemmas.Result.{err_from_is_err_and, on_ok_weaker, IfErr-weaker}
use Rattle.ft_compose.specs.meaning.Checked.{IsCertsFault}
use Rattle.ft_compose.proofs.CertsLemmas.{few_obligations, all_closed, miscounted}
use Rattle.ft_compose.proofs.checking.check_all.Goals as goal

pub check_first-requires-clause-there : goal.check_first-requires-clause-there
check_first-requires-clause-there c =
    c.common-there.ensures.given

pub check_first-requires-clause-needed : goal.check_first-requires-clause-needed
check_first-requires-clause-needed c =
    let needed = c.common-there.ensures.needed in let many = c.count-needed.ensures in omega (arith, needed, many)

pub returns-in_err-check_first-clause-refused : goal.returns-in_err-check_first-clause-refused
returns-in_err-check_first-clause-refused c =
    let p = err_from_is_err_and c.from_residual-in_err-check_first.result c.from_residual-in_err-check_first.ensures.1 in
    rw (p.1, p.2) c.in_err-check_first.ensures.refused

pub same_count-requires : goal.same_count-requires
same_count-requires c =
    let few = few_obligations c.args.tables.now in
    let needed = c.common-there.ensures.needed in let many = c.count-needed.ensures in omega (arith, few, needed, many)

pub returns-clause-closed : goal.returns-clause-closed
returns-clause-closed c = on_ok_weaker c.same_count.result
    (all_closed c.args.tables.now c.args.certs.now c.count-needed.result (length c.args.certs.now) c.common-there.result c.count-needed.ensures
    refl c.common-there.ensures.needed c.common-there.ensures.given c.common-there.ensures.most
    c.in_ok-check_first.ensures.closed)
    c.same_count.ensures.same

pub returns-clause-refused : goal.returns-clause-refused
returns-clause-refused c = IfErr-weaker c.same_count.result _ (IsCertsFault c.args.tables.now c.args.certs.now)
    (λ found told. miscounted c.args.tables.now c.args.certs.now c.count-needed.result (length c.args.certs.now) c.common-there.result
    c.count-needed.ensures refl c.common-there.ensures.needed c.common-there.ensures.given c.common-there.ensures.most
    c.in_ok-check_first.ensures.closed told.0 found told.1)
    c.same_count.ensures.differ
