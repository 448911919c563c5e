use Rattle.std.proofs.Common.{◌∙◌, ap}
use Rattle.std.specs.List.{flat_map}
use Rattle.ft_core.specs.meaning.Reads.{cond_reads}
use Rattle.ft_oblige.specs.building.Finding.{with_reads}
use Rattle.ft_oblige.proofs.FindLemmas.{finds_more}
use Rattle.ft_oblige.proofs.reading.find_in_rows.Goals as goal

pub loop-row-preserved : goal.loop-row-preserved
loop-row-preserved c =
    finds_more (flat_map cond_reads) c.args.rows.now c.loop-row.row-index c.row-item.result c.args.found.now c.loop-row.found
    c.find_in_all.new.found c.loop-row-test.true c.row-item.is c.loop-row.invariant
    (c.in_ok-find_in_all.ensures ∙ ap (λ conds. with_reads c.loop-row.found (flat_map cond_reads conds)) c.as_slice.ensures)
