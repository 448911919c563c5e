use Rattle.std.proofs.Common.{◌+◌, subst, arith}
use Rattle.ft_cover.specs.meaning.Attempted.{IsStep}
use Rattle.ft_cover.proofs.CoverLemmas.{none_closed, ended}
use Rattle.ft_cover.proofs.covering.first_open.Goals as goal

pub loop-before-init : goal.loop-before-init
loop-before-init c = none_closed c.args.tables.now c.args.keep c.new-certs.result c.new-certs.ensures

pub loop-before-preserved : goal.loop-before-preserved
loop-before-preserved c = subst (IsStep c.args.tables.now c.args.keep (c.loop-before.before + 1) c.go_on.new.certs) c.in_default.is
    c.in_ok-found.ensures

pub returns-in-Some : goal.returns-in-Some
returns-in-Some c = subst (IsStep c.args.tables.now c.args.keep (c.loop-before.before + 1) c.go_on.new.certs) c.in-Some.is
    c.in_ok-found.ensures

pub returns : goal.returns
returns c = ended c.laws.ensures c.args.tables.now c.args.keep c.loop-before.before c.loop-before.certs
    (omega (arith, c.loop-before.auto.before-end, c.len.ensures)) (omega (arith, c.loop-before-test.false, c.len.ensures))
    c.loop-before.invariant
