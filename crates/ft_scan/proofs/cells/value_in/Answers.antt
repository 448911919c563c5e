use Rattle.std.proofs.Common.{rules, FitsSigned, w64}
use Rattle.std.proofs.lemmas.Int.{to_z-of_z}
use Rattle.ft_scan.proofs.FoundLemmas.{none_found, its_term, its_value}
use Rattle.ft_scan.proofs.cells.value_in.Goals as goal

pub returns-in-None : goal.returns-in-None
returns-in-None g c = none_found (g.L.Look.view c.args.look.now) c.args.variable c.args.grid.now c.in-None.ensures

pub entry_value-requires-clause-entry : goal.entry_value-requires-clause-entry
entry_value-requires-clause-entry g c = its_term (g.L.Look.view c.args.look.now) c.args.variable c.args.grid.now
    c.in-Some.row c.in-Some.column c.in-Some.ensures

pub returns-in-Some : goal.returns-in-Some
returns-in-Some g c =
    let fits : FitsSigned w64 c.entry_value.result = search rules in
    simp to_z-of_z (its_value (g.L.Look.view c.args.look.now) c.args.variable c.args.grid.now c.in-Some.row c.in-Some.column
    c.in-Some.ensures c.entry_value.result c.entry_value.ensures)
