use Rattle.std.proofs.Common.{arith, false}
use Rattle.ft_claims.proofs.CountingLemmas.{counts-turn, counts-end}
use Rattle.ft_claims.proofs.counting.numbers_by.Goals as goal

pub loop-mark-preserved : goal.loop-mark-preserved
loop-mark-preserved c =
    counts-turn c.args.marks.now c.loop-mark.list c.push.new.self c.loop-mark.mark-index c.loop-mark.next c.in_ok-next.next false
    c.loop-mark-test.true c.loop-mark.invariant
    c.in_ok-push.ensures.ok c.in_ok-next.ensures

pub returns : goal.returns
returns c = let past = c.loop-mark-test.false in counts-end c.args.marks.now c.loop-mark.list c.loop-mark.mark-index c.loop-mark.next
    (omega (arith, past)) c.loop-mark.invariant
