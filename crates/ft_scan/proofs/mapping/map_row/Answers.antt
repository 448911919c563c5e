use Rattle.std.proofs.Common.{◌∙◌, ap, subst, ◌<◌, ◌≤◌, List, length, slice_index_or}
use Rattle.ft_core.specs.declared.tables.Table.{Table}
use Rattle.ft_core.specs.meaning.Grids.{is_for}
use Rattle.ft_scan.specs.steps.Mapping.{IsFilled}
use Rattle.ft_scan.proofs.FillLemmas.{more_filled, whole_filled, all_filled}
use Rattle.ft_scan.proofs.mapping.map_row.Goals as goal

pub loop-table-preserved : goal.loop-table-preserved
loop-table-preserved g c =
    let is = c.table-item.is ∙ ap (λ (tables : List Table). slice_index_or tables c.loop-table.table-index c.table-item.result)
    c.as_slice-table-items.ensures in
    (more_filled c.laws.ensures) c.args.tables.now c.args.section (g.L.Look.view c.args.look.now) (λ table x. is_for c.args.section x table)
    c.args.tables.now.tables
    c.loop-table.table-index c.table-item.result c.args.image.now c.loop-table.image c.put_table.new.image
    (subst (λ (tables : List Table). c.loop-table.table-index < length tables) c.as_slice-table-items.ensures c.loop-table-test.true)
    c.loop-table.invariant
    (subst (λ table. IsFilled c.args.tables.now c.args.section (g.L.Look.view c.args.look.now) (λ x. is_for c.args.section x table)
    c.loop-table.image c.put_table.new.image) is c.put_table.ensures)

pub returns-clause-values : goal.returns-clause-values
returns-clause-values g c = (all_filled c.laws.ensures) c.args.tables.now c.args.section (g.L.Look.view c.args.look.now) c.args.image.now
    c.loop-table.image
    ((whole_filled c.laws.ensures) c.args.tables.now c.args.section (g.L.Look.view c.args.look.now)
    (λ table x. is_for c.args.section x table) c.args.tables.now.tables c.loop-table.table-index
    c.args.image.now c.loop-table.image
    (subst (λ (tables : List Table). length tables ≤ c.loop-table.table-index) c.as_slice-table-items.ensures c.loop-table-test.false)
    c.loop-table.invariant)
