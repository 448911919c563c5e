use Rattle.std.proofs.Common.{subst, List}
use Rattle.std.specs.List.{flat_map}
use Rattle.ft_core.specs.walk.Gathering.{Adds}
use Rattle.ft_core.specs.meaning.Reads.{cond_reads}
use Rattle.ft_core.specs.declared.term.Cond.{Cond}
use Rattle.ft_core.proofs.ReadLemmas.{adds_more}
use Rattle.ft_core.proofs.gathering.add_cond_rows.Goals as goal

pub loop-row-preserved : goal.loop-row-preserved
loop-row-preserved c = adds_more c.args.counts.vars c.args.counts.memories (flat_map cond_reads) c.args.rows.now c.loop-row.row-index
    c.row-item.result c.args.items.now c.loop-row.items c.add_conds.new.items
    c.loop-row-test.true c.row-item.is c.loop-row.invariant
    (subst (λ (row : List Cond). Adds c.args.counts.vars c.args.counts.memories (flat_map cond_reads row) c.loop-row.items
    c.add_conds.new.items) c.as_slice.ensures c.in_ok-add_conds.ensures)
