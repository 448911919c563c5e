use Rattle.std.proofs.Common.{subst, arith, refl}
use Rattle.std.proofs.lemmas.Result.{err_from_is_err_and}
use Rattle.ft_core.specs.laws.Places.{item-there}
use Rattle.ft_compose.specs.building.Checking.{CloseFirst}
use Rattle.ft_compose.proofs.CertsLemmas.{none_closed, more_closed, first_refused}
use Rattle.ft_compose.proofs.checking.check_first.Goals as goal

pub loop-before-init : goal.loop-before-init
loop-before-init c = none_closed c.args.tables.now c.args.certs.now

pub check_number-requires-clause-some : goal.check_number-requires-clause-some
check_number-requires-clause-some c = omega arith

pub check_number-requires-clause-last : goal.check_number-requires-clause-last
check_number-requires-clause-last c =
    let less = c.loop-before-test.true in let needed = c.requires.needed in omega (arith, less, needed)

pub check_number-requires-clause-nodes : goal.check_number-requires-clause-nodes
check_number-requires-clause-nodes c =
    let less = c.loop-before-test.true in let there = c.requires.there in
    c.requires.nodes c.loop-before.before c.index-certs-before.result
    (item-there c.args.certs.now c.args.certs.now c.loop-before.before c.index-certs-before.result refl (omega (arith, less, there))
    c.index-certs-before.is)

pub loop-before-preserved : goal.loop-before-preserved
loop-before-preserved c =
    let less = c.loop-before-test.true in let there = c.requires.there in
    more_closed c.args.tables.now c.loop-before.before c.args.certs.now c.index-certs-before.result
    (item-there c.args.certs.now c.args.certs.now c.loop-before.before c.index-certs-before.result refl (omega (arith, less, there))
    c.index-certs-before.is)
    c.loop-before.invariant c.in_ok-check_number.ensures.closed

pub returns-in_err-check_number-clause-refused : goal.returns-in_err-check_number-clause-refused
returns-in_err-check_number-clause-refused c =
    let less = c.loop-before-test.true in let there = c.requires.there in
    let p = err_from_is_err_and c.from_residual.result c.from_residual.ensures.1 in
    rw (p.1, p.2)
    (first_refused c.args.tables.now c.loop-before.before c.args.certs.now c.index-certs-before.result c.in_err-check_number.field-0.0
    (item-there c.args.certs.now c.args.certs.now c.loop-before.before c.index-certs-before.result refl (omega (arith, less, there))
    c.index-certs-before.is)
    c.loop-before.invariant c.in_err-check_number.ensures.refused)

pub returns-clause-closed : goal.returns-clause-closed
returns-clause-closed c =
    let low = c.loop-before.auto.before-end in let past = c.loop-before-test.false in
    subst (λ m. CloseFirst c.args.tables.now m c.args.certs.now) (omega (arith, low, past)) c.loop-before.invariant
