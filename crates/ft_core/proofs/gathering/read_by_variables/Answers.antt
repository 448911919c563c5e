use Rattle.ft_core.specs.walk.Gathering.{table_reads_for}
use Rattle.ft_core.proofs.GatherLemmas.{tables-next}
use Rattle.ft_core.proofs.gathering.read_by_variables.Goals as goal

pub loop-table-preserved : goal.loop-table-preserved
loop-table-preserved c = tables-next c.args.counts.vars c.args.counts.memories table_reads_for c.args.tables.now c.loop-table.table-index
    c.table-item.result
    c.in_ok-lists.lists.items c.loop-table.lists.items c.gather_table.new.lists.items c.loop-table-test.true c.table-item.is
    c.loop-table.invariant c.in_ok-gather_table.ensures
