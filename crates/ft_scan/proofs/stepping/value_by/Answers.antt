use Rattle.std.proofs.Common.{rules, FitsSigned, w64}
use Rattle.std.proofs.lemmas.Int.{to_z-of_z}
use Rattle.ft_scan.specs.steps.Frame.{view_of}
use Rattle.ft_scan.proofs.FrameLemmas.{cell_missed, cell_found}
use Rattle.ft_scan.proofs.TableLemmas.{grid_safe}
use Rattle.ft_scan.proofs.stepping.value_by.Goals as goal

pub value_in-requires : goal.value_in-requires
value_in-requires c = grid_safe c.args.tables.now c.args.table c.get-its_table.result.now c.get-its_table.ensures
    (view_of c.args.frame.now) c.requires.keeps

pub unreachable-requires : goal.unreachable-requires
unreachable-requires c = (cell_missed c.laws.ensures) c.args.tables.now c.requires.has.0 c.args.table c.get-its_table.result.now
    c.get-its_table.ensures c.args.frame.now c.args.variable c.requires.has.1 c.in-None.ensures

pub returns : goal.returns
returns c = λ s has.
    let fits : FitsSigned w64 c.in-Some.value = search rules in
    simp to_z-of_z ((cell_found c.laws.ensures) c.args.tables.now s c.args.table c.get-its_table.result.now c.get-its_table.ensures
    c.args.frame.now c.args.variable has c.in-Some.value c.in-Some.ensures)
