use Rattle.std.proofs.lemmas.Result.{err_from_is_err_and}
use Rattle.ft_types.proofs.GatherLemmas.{lack-stops, twice-answers}
use Rattle.ft_types.proofs.judging.judge_tables.Goals as goal

pub returns-in_err-examine_items : goal.returns-in_err-examine_items
returns-in_err-examine_items c =
    let p = err_from_is_err_and c.from_residual-in_err-examine_items.result c.from_residual-in_err-examine_items.ensures.1 in
    rw (p.1, p.2)
    (lack-stops c.in_err-examine_items.field-0.0 c.args.tree.now.items c.as_slice-items.result.now c.as_slice-items.ensures
    c.in_err-examine_items.ensures)

pub returns : goal.returns
returns c =
    twice-answers c.found.result c.args.tree.now.items c.as_slice-items.result.now c.in_ok-gathered.gathered.second
    c.as_slice-items.ensures
    c.in_ok-examine_items.ensures c.in_ok-gathered.ensures.told c.found.ensures
