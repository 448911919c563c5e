use Rattle.std.proofs.Common.{arith, refl, subst}
use Rattle.ft_core.specs.laws.Places.{item-there}
use Rattle.ft_compose.specs.building.Rounds.{IsStep}
use Rattle.ft_compose.proofs.LinkLemmas.{round-begins, round-more, round-ends}
use Rattle.ft_compose.proofs.linking.round.Goals as goal

pub loop-at-init : goal.loop-at-init
loop-at-init c = round-begins c.args.others.now c.args.links.now

pub loop-at-preserved : goal.loop-at-preserved
loop-at-preserved c =
    let part = c.index-others-at.result in
    let there = item-there c.args.others.now c.args.others.now c.loop-at.at part refl c.loop-at-test.true c.index-others-at.is in
    round-more c.args.others.now c.loop-at.at part there c.args.links.now c.loop-at.links c.link-grew.new.links c.loop-at.grew
    c.link-grew.result c.loop-at.invariant
    (subst (λ names. IsStep c.loop-at.at names c.loop-at.links c.link-grew.new.links c.link-grew.result) c.as_slice.ensures
    c.link-grew.ensures)

pub link-grew-requires : goal.link-grew-requires
link-grew-requires c =
    let long = c.loop-at.invariant.long in
    let wide = c.requires in
    let less = c.loop-at-test.true in
    omega (arith, long, wide, less)

pub returns : goal.returns
returns c = let past = c.loop-at-test.false in
    round-ends c.args.others.now c.loop-at.at c.args.links.now c.loop-at.links c.loop-at.grew (omega (arith, past)) c.loop-at.invariant
