use Rattle.std.proofs.Common.{arith}
use Rattle.ft_oblige.proofs.PairLemmas.{pairs-turn, pairs-end}
use Rattle.ft_oblige.proofs.pairing.pairs.Goals as goal

pub loop-at-preserved : goal.loop-at-preserved
loop-at-preserved c =
    pairs-turn c.args.claims.now c.loop-at.list c.add_pairs.new.list c.loop-at.at c.index-claims-at.result c.loop-at-test.true
    c.index-claims-at.is c.in_ok-add_pairs.ensures c.loop-at.invariant

pub returns : goal.returns
returns c = let past = c.loop-at-test.false in
    pairs-end c.args.claims.now c.loop-at.list c.loop-at.at (omega (arith, past)) c.loop-at.invariant
