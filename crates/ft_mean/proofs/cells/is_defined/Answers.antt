use Rattle.std.proofs.Common.{◌∙◌, sym, subst, ◌&&◌, ◌≤◌, length, List, FitsSigned, w64, rules}
use Rattle.std.specs.List.{Contains}
use Rattle.std.proofs.lemmas.Int.{to_z-of_z}
use Rattle.ft_core.specs.declared.tables.Table.{Table}
use Rattle.ft_core.specs.meaning.Grids.{is_section}
use Rattle.ft_core.specs.checked.Size.{is_sized_grid}
use Rattle.ft_mean.specs.judge.Seen.{grid_gives}
use Rattle.ft_mean.proofs.SafeLemmas.{safe_by}
use Rattle.ft_core.specs.laws.Lists.{all_pass}
use Rattle.ft_mean.proofs.RecallLemmas.{any_in, any_end}
use Rattle.ft_mean.proofs.GivesLemmas.{defined-gives}
use Rattle.ft_mean.proofs.cells.is_defined.Goals as goal

pub table_has-requires : goal.table_has-requires
table_has-requires g c =
    let there : Contains c.args.tables.now.tables c.table-item.result =
    subst (λ (ts : List Table). Contains ts c.table-item.result) c.as_slice-table-items.ensures
    (c.loop-table.table-index, c.loop-table-test.true, sym c.table-item.is) in
    safe_by _ (λ vs ms s. all_pass (λ (t : Table). is_sized_grid vs ms t.grid) c.args.tables.now.tables s c.table-item.result there)
    c.requires

pub returns-then-table_has : goal.returns-then-table_has
returns-then-table_has g c =
    let fits : FitsSigned w64 c.args.wanted = search rules in
    let here = simp to_z-of_z at c.if-table_has.ensures in
    let there : Contains c.args.tables.now.tables c.table-item.result =
    subst (λ (ts : List Table). Contains ts c.table-item.result) c.as_slice-table-items.ensures
    (c.loop-table.table-index, c.loop-table-test.true, sym c.table-item.is) in
    sym (defined-gives (g.L.Look.view c.args.look.now) c.args.variable c.args.wanted c.args.tables.now c.args.section
    ∙ any_in (λ t. is_section t.section c.args.section && grid_gives (g.L.Look.view c.args.look.now) c.args.variable c.args.wanted t.grid)
    c.args.tables.now.tables c.table-item.result there here)

pub returns : goal.returns
returns g c =
    let fits : FitsSigned w64 c.args.wanted = search rules in
    let past = simp to_z-of_z at c.loop-table.invariant in
    let end : length c.args.tables.now.tables ≤ c.loop-table.table-index =
    subst (λ (ts : List Table). length ts ≤ c.loop-table.table-index) c.as_slice-table-items.ensures c.loop-table-test.false in
    sym (defined-gives (g.L.Look.view c.args.look.now) c.args.variable c.args.wanted c.args.tables.now c.args.section
    ∙ any_end (λ t. is_section t.section c.args.section && grid_gives (g.L.Look.view c.args.look.now) c.args.variable c.args.wanted t.grid)
    c.args.tables.now.tables c.loop-table.table-index end past)
