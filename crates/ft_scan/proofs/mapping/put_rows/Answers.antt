use Rattle.std.proofs.Common.{◌∙◌, sym, subst, rules, arith, slice_index_or, FitsSigned, w64}
use Rattle.std.specs.Prelude.{IsTrue, ◌==◌}
use Rattle.std.proofs.lemmas.Int.{to_z-of_z}
use Rattle.std.proofs.lemmas.Option.{slice_get-get_or}
use Rattle.ft_mean.specs.meaning.Cells.{defined}
use Rattle.ft_scan.proofs.FillLemmas.{one_filled, more_filled, whole_filled}
use Rattle.ft_scan.proofs.ImageLemmas.{row_finds, rows_none}
use Rattle.ft_scan.proofs.TableLemmas.{grid_safe}
use Rattle.ft_scan.proofs.mapping.put_rows.Goals as goal

pub open_column-requires : goal.open_column-requires
open_column-requires g c = grid_safe c.args.tables.now c.requires.table.0 c.args.table.now c.requires.table.1
    (g.L.Look.view c.args.look.now) c.requires.can.keeps

pub returns-in_default : goal.returns-in_default
returns-in_default g c = (rows_none c.laws.ensures) c.args.tables.now c.args.section (g.L.Look.view c.args.look.now) c.requires.can
    c.args.table.now c.requires.table
    c.args.targets.now c.requires.targets c.in_default.ensures c.args.image.now

pub entry_value-value-requires-clause-safe : goal.entry_value-value-requires-clause-safe
entry_value-value-requires-clause-safe g c = grid_safe c.args.tables.now c.requires.table.0 c.args.table.now c.requires.table.1
    (g.L.Look.view c.args.look.now) c.requires.can.keeps

pub entry_value-value-requires-clause-entry : goal.entry_value-value-requires-clause-entry
entry_value-value-requires-clause-entry g c =
    let found = (row_finds c.laws.ensures) c.args.tables.now c.args.section (g.L.Look.view c.args.look.now) c.requires.can c.args.table.now
    c.requires.table c.args.targets.now c.requires.targets
    c.loop-row.row _ c.in-Some.column (slice_get-get_or c.args.targets.now c.loop-row.row 0 c.loop-row-test.true) c.in-Some.ensures in
    (found.0, found.1)

pub loop-row-preserved : goal.loop-row-preserved
loop-row-preserved g c =
    let fits : FitsSigned w64 c.entry_value-value.result = search rules in
    let put = simp to_z-of_z at c.put_value.ensures in
    let found = (row_finds c.laws.ensures) c.args.tables.now c.args.section (g.L.Look.view c.args.look.now) c.requires.can c.args.table.now
    c.requires.table c.args.targets.now c.requires.targets
    c.loop-row.row _ c.in-Some.column (slice_get-get_or c.args.targets.now c.loop-row.row 0 c.loop-row-test.true) c.in-Some.ensures in
    (more_filled c.laws.ensures) c.args.tables.now c.args.section (g.L.Look.view c.args.look.now) (λ target x. target == x)
    c.args.targets.now c.loop-row.row 0
    c.args.image.now c.loop-row.image c.put_value.new.image c.loop-row-test.true c.loop-row.invariant
    ((one_filled c.laws.ensures) c.args.tables.now c.args.section (g.L.Look.view c.args.look.now) _ c.entry_value-value.result
    c.loop-row.image c.put_value.new.image
    (c.loop-row.invariant.width ∙ c.requires.room)
    (λ v is. subst (λ z. IsTrue (defined c.args.tables.now c.args.section (g.L.Look.view c.args.look.now)
    (slice_index_or c.args.targets.now c.loop-row.row 0) z)) (sym (c.entry_value-value.ensures found.0 found.1)) found.2) put)

pub returns : goal.returns
returns g c = (whole_filled c.laws.ensures) c.args.tables.now c.args.section (g.L.Look.view c.args.look.now) (λ target x. target == x)
    c.args.targets.now c.loop-row.row
    c.args.image.now c.loop-row.image (omega (arith, c.loop-row.auto.row-end, c.loop-row-test.false)) c.loop-row.invariant
