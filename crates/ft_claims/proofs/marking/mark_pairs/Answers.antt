use Rattle.ft_claims.proofs.MarkLemmas.{pairs-more}
use Rattle.ft_claims.proofs.marking.mark_pairs.Goals as goal

pub loop-pair-preserved : goal.loop-pair-preserved
loop-pair-preserved c =
    pairs-more c.args.marks.now c.loop-pair.marks c.mark_pair.new.marks c.args.pairs.now c.loop-pair.pair-index c.pair-item.result
    c.loop-pair-test.true c.pair-item.is c.loop-pair.invariant c.mark_pair.ensures
