use Rattle.std.proofs.Common.{rules, FitsSigned, w64}
use Rattle.std.proofs.lemmas.Int.{to_z-of_z}
use Rattle.std.proofs.lemmas.Option.{get_or_from_slice_get}
use Rattle.ft_scan.proofs.FrameLemmas.{table_safe, has_entry, entry_found}
use Rattle.ft_scan.proofs.stepping.find_entry.Goals as goal

pub entry_value-value-requires-clause-safe : goal.entry_value-value-requires-clause-safe
entry_value-value-requires-clause-safe c =
    table_safe c.args.tables.now c.args.frame.now c.requires.frame c.args.table c.get-vector.result.now c.get-vector.ensures

pub entry_value-value-requires-clause-entry : goal.entry_value-value-requires-clause-entry
entry_value-value-requires-clause-entry c = has_entry c.args.tables.now c.requires.can.0 c.args.table c.get-vector.result.now
    c.get-vector.ensures c.args.frame.now
    c.args.row c.get-column.result.now (get_or_from_slice_get c.args.frame.now.columns c.args.table c.get-column.result.now 0
    c.get-column.ensures) c.requires.can.1

pub returns : goal.returns
returns c = λ s has.
    let fits : FitsSigned w64 c.entry_value-value.result = search rules in
    let put = simp to_z-of_z at c.set.ensures in
    entry_found c.args.tables.now s c.args.table c.get-vector.result.now c.get-vector.ensures c.args.frame.now c.args.row
    c.get-column.result.now
    (get_or_from_slice_get c.args.frame.now.columns c.args.table c.get-column.result.now 0 c.get-column.ensures)
    c.args.variable c.entry_value-value.result c.set.new.self c.entry_value-value.ensures put has
