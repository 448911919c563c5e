use Rattle.ft_scan.proofs.FrameLemmas.{table_safe, has_open, column_found}
use Rattle.ft_scan.proofs.stepping.find_column.Goals as goal

pub open_column-requires : goal.open_column-requires
open_column-requires c = table_safe c.args.tables.now c.args.frame.now c.requires.frame c.args.table c.get-vector.result.now
    c.get-vector.ensures

pub unreachable-requires : goal.unreachable-requires
unreachable-requires c =
    let at = has_open c.args.tables.now c.requires.can.0 c.args.table c.get-vector.result.now c.get-vector.ensures c.args.frame.now
    c.requires.can.1 in
    c.in-None.ensures at.0 at.1

pub returns : goal.returns
returns c = λ s has. column_found c.args.tables.now s c.args.table c.get-vector.result.now c.get-vector.ensures c.args.frame.now
    c.in-Some.column c.set.new.self c.in-Some.ensures c.set.ensures has
