use Rattle.std.proofs.Common.{◌+◌, subst, arith}
use Rattle.ft_compose.specs.building.Deciding.{IsStep}
use Rattle.ft_compose.proofs.DecideLemmas.{none_closed, ended}
use Rattle.ft_compose.proofs.deciding.first_open.Goals as goal

pub loop-before-init : goal.loop-before-init
loop-before-init c = none_closed c.args.tables.now c.args.keep _ c.new-certs.result (omega (arith, c.len.ensures)) c.new-certs.ensures

pub loop-before-preserved : goal.loop-before-preserved
loop-before-preserved c = subst (IsStep c.args.tables.now c.args.keep (c.loop-before.before + 1) c.go_on.new.certs) c.in_default.is
    c.in_ok-found.ensures

pub returns-in-Some : goal.returns-in-Some
returns-in-Some c = subst (IsStep c.args.tables.now c.args.keep (c.loop-before.before + 1) c.go_on.new.certs) c.in-Some.is
    c.in_ok-found.ensures

pub returns : goal.returns
returns c = ended c.deciding_laws.ensures c.args.tables.now c.args.keep c.loop-before.before c.loop-before.certs c.args.graph.now.order
    c.requires.proper c.requires.goals c.requires.order
    (omega (arith, c.loop-before.auto.before-end, c.count-last.ensures)) (omega (arith, c.loop-before-test.false, c.count-last.ensures))
    c.loop-before.invariant
