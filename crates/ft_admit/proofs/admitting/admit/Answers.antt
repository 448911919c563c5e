use Rattle.std.proofs.Common.{refl}
use Rattle.std.proofs.lemmas.Result.{err_from_is_err_and}
use Rattle.ft_admit.specs.meaning.SetFaults.{spelling, typing}
use Rattle.ft_admit.proofs.AdmitLemmas.{block-memory, linked, parse-memory, type-memory}
use Rattle.ft_admit.proofs.admitting.admit.Goals as goal

pub returns-in_err-tree-clause-fault : goal.returns-in_err-tree-clause-fault
returns-in_err-tree-clause-fault c =
    let p = err_from_is_err_and c.from_residual.result c.from_residual.ensures.1 in
    rw (p.1, p.2) (spelling c.in_err-tree.field-0.0 refl c.in_err-tree.ensures.fault)

pub returns-in_err-tree-clause-only : goal.returns-in_err-tree-clause-only
returns-in_err-tree-clause-only c = λ tree spelled _ _.
    let p = err_from_is_err_and c.from_residual.result c.from_residual.ensures.1 in
    rw (p.1, p.2) (parse-memory c.in_err-tree.field-0.0 tree (c.in_err-tree.ensures.only tree spelled))

pub returns-in_err-tables-clause-fault : goal.returns-in_err-tables-clause-fault
returns-in_err-tables-clause-fault c =
    let p = err_from_is_err_and c.from_residual-in_err-tables.result c.from_residual-in_err-tables.ensures.1 in
    rw (p.1, p.2)
    (typing c.in_ok-tree.tree c.in_err-tables.field-0.0 refl c.in_ok-tree.ensures.spelled c.in_err-tables.ensures.fault)

pub returns-in_err-tables-clause-only : goal.returns-in_err-tables-clause-only
returns-in_err-tables-clause-only c = λ tree spelled no_fault _.
    let p = err_from_is_err_and c.from_residual-in_err-tables.result c.from_residual-in_err-tables.ensures.1 in
    rw (p.1, p.2)
    (type-memory c.in_err-tables.field-0.0 c.in_ok-tree.tree tree (c.in_ok-tree.ensures.only tree spelled) no_fault
    c.in_err-tables.ensures.only)

pub returns-in_err-graph-clause-fault : goal.returns-in_err-graph-clause-fault
returns-in_err-graph-clause-fault c =
    let p = err_from_is_err_and c.from_residual-in_err-graph.result c.from_residual-in_err-graph.ensures.1 in
    rw (p.1, p.2)
    (linked c.args.text.now c.in_ok-tree.tree c.in_ok-tables.tables c.in_err-graph.field-0.0 c.in_ok-tree.ensures.spelled
    c.in_ok-tables.ensures.no_fault c.in_ok-tables.ensures.set c.in_err-graph.ensures.fault)

pub returns-in_err-graph-clause-only : goal.returns-in_err-graph-clause-only
returns-in_err-graph-clause-only c = λ tree spelled _ no_fault.
    let p = err_from_is_err_and c.from_residual-in_err-graph.result c.from_residual-in_err-graph.ensures.1 in
    rw (p.1, p.2)
    (block-memory c.in_err-graph.field-0.0 c.in_ok-tree.tree tree c.in_ok-tables.tables (c.in_ok-tree.ensures.only tree spelled)
    c.in_ok-tables.ensures.set no_fault c.in_err-graph.ensures.only)
