use Rattle.ft_core.specs.laws.Places.{item-there}
use Rattle.ft_trace.proofs.WritingLemmas.{has-value}
use Rattle.ft_trace.proofs.writing.add_scan.Goals as goal

pub add_item-requires-clause-value : goal.add_item-requires-clause-value
add_item-requires-clause-value c = λ mon. has-value c.args.tables.now c.args.scan.now c.requires.scan c.vars.at c.var-item.result
    (item-there _ _ c.vars.at c.var-item.result c.as_slice-var-items.ensures c.vars-test.true c.var-item.is, mon)
