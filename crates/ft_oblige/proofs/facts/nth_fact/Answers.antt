use Rattle.std.proofs.Common.{◌+◌, ◌-◌, ◌≤◌, ◌<◌, arith, refl, subst, sym}
use Rattle.ft_core.specs.laws.Places.{item-there}
use Rattle.ft_oblige.proofs.NthLemmas.{IsLeft, left-first, left-more, left-found, left-ends}
use Rattle.ft_oblige.proofs.facts.nth_fact.Goals as goal

pub loop-at-init : goal.loop-at-init
loop-at-init c = left-first c.args.blocks.now c.args.nth c.requires.facts c.requires.there

pub loop-at-preserved : goal.loop-at-preserved
loop-at-preserved c =
    let block = c.index-blocks-at.result in
    subst (λ n. IsLeft c.args.blocks.now c.args.nth (c.loop-at.at + 1) (c.loop-at.left - n)) (sym c.len-left.ensures)
    (left-more c.args.blocks.now c.args.nth c.loop-at.at c.loop-at.left block c.loop-at-test.true c.index-blocks-at.is c.loop-at.invariant
    (subst (λ n. n ≤ c.loop-at.left) c.len.ensures c.if-left-len.false))

pub returns-then-left-len : goal.returns-then-left-len
returns-then-left-len c =
    let block = c.index-blocks-at.result in
    left-found c.args.blocks.now c.args.nth c.loop-at.at c.loop-at.left block c.loop-at-test.true c.index-blocks-at.is c.loop-at.invariant
    (item-there c.args.blocks.now c.args.blocks.now c.loop-at.at block refl c.loop-at-test.true c.index-blocks-at.is)
    (subst (λ n. c.loop-at.left < n) c.len.ensures c.if-left-len.true)

pub unreachable-requires : goal.unreachable-requires
unreachable-requires c = let past = c.loop-at-test.false in
    left-ends c.args.blocks.now c.args.nth c.loop-at.at c.loop-at.left (omega (arith, past)) c.loop-at.invariant
