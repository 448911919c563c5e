use Rattle.ft_core.specs.meaning.Reads.{term_reads}
use Rattle.ft_core.proofs.ReadLemmas.{adds_more}
use Rattle.ft_core.proofs.gathering.add_terms.Goals as goal

pub loop-term-preserved : goal.loop-term-preserved
loop-term-preserved c = adds_more c.args.counts.vars c.args.counts.memories term_reads c.args.terms.now c.loop-term.term-index
    c.term-item.result c.args.items.now c.loop-term.items c.add_term.new.items
    c.loop-term-test.true c.term-item.is c.loop-term.invariant c.in_ok-add_term.ensures
