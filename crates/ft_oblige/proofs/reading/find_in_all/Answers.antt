use Rattle.ft_core.specs.meaning.Reads.{cond_reads}
use Rattle.ft_oblige.proofs.FindLemmas.{finds_more}
use Rattle.ft_oblige.proofs.reading.find_in_all.Goals as goal

pub loop-cond-preserved : goal.loop-cond-preserved
loop-cond-preserved c =
    finds_more cond_reads c.args.conds.now c.loop-cond.cond-index c.cond-item.result c.args.found.now c.loop-cond.found
    c.find_in.new.found c.loop-cond-test.true c.cond-item.is c.loop-cond.invariant c.in_ok-find_in.ensures
