use Rattle.std.proofs.Common.{arith, subst}
use Rattle.ft_compose.specs.building.Rounds.{IsRound}
use Rattle.ft_compose.proofs.LinkLemmas.{rounds-begin, rounds-more, rounds-stop, rounds-end}
use Rattle.ft_compose.proofs.linking.settle.Goals as goal

pub loop-init : goal.loop-init
loop-init c = rounds-begin c.args.others.now c.args.links.now c.requires

pub loop-preserved : goal.loop-preserved
loop-preserved c =
    rounds-more c.args.others.now c.loop.counter c.args.links.now c.loop.links c.round.new.links c.loop.invariant
    (subst (IsRound c.args.others.now c.loop.links c.round.new.links) c.if-not-round.false c.round.ensures)

pub returns-then-not-round-clause-keeps : goal.returns-then-not-round-clause-keeps
returns-then-not-round-clause-keeps c =
    (rounds-stop c.args.others.now c.loop.counter c.args.links.now c.loop.links c.round.new.links c.loop.invariant
    (subst (IsRound c.args.others.now c.loop.links c.round.new.links) c.if-not-round.true c.round.ensures)).0

pub returns-then-not-round-clause-still : goal.returns-then-not-round-clause-still
returns-then-not-round-clause-still c =
    (rounds-stop c.args.others.now c.loop.counter c.args.links.now c.loop.links c.round.new.links c.loop.invariant
    (subst (IsRound c.args.others.now c.loop.links c.round.new.links) c.if-not-round.true c.round.ensures)).1

pub returns-clause-keeps : goal.returns-clause-keeps
returns-clause-keeps c = c.loop.invariant.keeps

pub returns-clause-still : goal.returns-clause-still
returns-clause-still c = let past = c.loop-test.false in
    rounds-end c.args.others.now c.loop.counter c.args.links.now c.loop.links (omega (arith, past)) c.loop.invariant
