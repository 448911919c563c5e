use Rattle.std.proofs.lemmas.Result.{err_from_is_err_and}
use Rattle.ft_types.specs.meaning.Shapes.{row_fault}
use Rattle.ft_names.specs.laws.First.{first_more, stops_at}
use Rattle.ft_types.proofs.shapes.rows_fault.Goals as goal

pub returns-in_err-entries_fault : goal.returns-in_err-entries_fault
returns-in_err-entries_fault c =
    let p = err_from_is_err_and c.from_residual.result c.from_residual.ensures.1 in
    rw (p.1, p.2)
    (stops_at c.in_err-entries_fault.field-0.0 (row_fault c.args.section c.args.name.now c.args.columns) c.args.rows.now
    c.loop-row.row-index c.row-item.result
    c.loop-row-test.true c.row-item.is c.loop-row.invariant (rw c.len.ensures at c.in_err-entries_fault.ensures))

pub loop-row-preserved : goal.loop-row-preserved
loop-row-preserved c =
    first_more (row_fault c.args.section c.args.name.now c.args.columns) c.args.rows.now c.loop-row.row-index c.row-item.result
    c.loop-row-test.true c.row-item.is c.loop-row.invariant (rw c.len.ensures at c.in_ok-entries_fault.ensures)
