use Rattle.ft_core.specs.meaning.Reads.{cond_reads}
use Rattle.ft_core.proofs.ReadLemmas.{adds_more}
use Rattle.ft_core.proofs.gathering.add_conds.Goals as goal

pub loop-cond-preserved : goal.loop-cond-preserved
loop-cond-preserved c = adds_more c.args.counts.vars c.args.counts.memories cond_reads c.args.conds.now c.loop-cond.cond-index
    c.cond-item.result c.args.items.now c.loop-cond.items c.add_cond.new.items
    c.loop-cond-test.true c.cond-item.is c.loop-cond.invariant c.in_ok-add_cond.ensures
