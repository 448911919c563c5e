use Rattle.std.proofs.lemmas.Result.{err_from_is_err_and}
use Rattle.ft_names.specs.meaning.NameFaults.{name_fault}
use Rattle.ft_names.proofs.FaultLemmas.{answers-stopped}
use Rattle.ft_names.proofs.RoomLemmas.{few-items, few-names}
use Rattle.ft_names.proofs.resolving.resolve.Goals as goal

pub resolve_items-requires-clause-few : goal.resolve_items-requires-clause-few
resolve_items-requires-clause-few c = rw c.as_slice.ensures (few-items c.args.tree.now)

pub resolve_items-requires-clause-room : goal.resolve_items-requires-clause-room
resolve_items-requires-clause-room c = rw c.as_slice.ensures (few-names c.args.tree.now)

pub returns-in_err-resolve_items-clause-answers : goal.returns-in_err-resolve_items-clause-answers
returns-in_err-resolve_items-clause-answers c =
    let p = err_from_is_err_and c.from_residual.result c.from_residual.ensures.1 in
    rw (p.1, p.2)
    (answers-stopped c.in_err-resolve_items.field-0.0 (name_fault c.args.tree.now.items)
    (rw c.as_slice.ensures at c.in_err-resolve_items.ensures.answers))
