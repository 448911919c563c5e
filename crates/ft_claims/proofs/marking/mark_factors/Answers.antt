use Rattle.std.proofs.Common.{pos}
use Rattle.ft_claims.proofs.MarkLemmas.{factor-more}
use Rattle.ft_claims.proofs.marking.mark_factors.Goals as goal

pub loop-factor-preserved : goal.loop-factor-preserved
loop-factor-preserved c =
    factor-more c.args.marks.now c.loop-factor.marks c.mark.new.marks c.args.factors.now c.loop-factor.factor-index (0, pos 0)
    c.loop-factor-test.true c.loop-factor.invariant c.mark.ensures
