use Rattle.std.proofs.Common.{subst}
use Rattle.ft_oblige.specs.meaning.Tried.{IsClosedBy, IsPointIn, IsTried}
use Rattle.ft_unroll.specs.building.Telling.{AreRows}
use Rattle.ft_unroll.proofs.FoundLemmas.{few_splits}
use Rattle.ft_unroll.proofs.SeekLemmas.{none-settled, spent-settled, point-told}
use Rattle.ft_unroll.proofs.seeking.seek.Goals as goal

pub try_formula-requires-clause-splits : goal.try_formula-requires-clause-splits
try_formula-requires-clause-splits c = few_splits c.args.tables.now

pub returns-in-Closed : goal.returns-in-Closed
returns-in-Closed c parts is =
    let form = c.args.form.now in
    let closed : IsClosedBy form.formula form.area.spans c.in-Closed._cert =
    subst (IsTried form.formula form.area.spans c.args.tables.now.splits) c.in-Closed.is c.in_ok-tried.ensures in
    none-settled c.laws.ensures c.args.tables.now c.args.scans parts form is closed.none

pub returns-in_ok-history-in-Point : goal.returns-in_ok-history-in-Point
returns-in_ok-history-in-Point c parts is =
    let form = c.args.form.now in
    let n = c.args.scans in
    let point : IsPointIn form.formula form.area.spans c.in-Point.values =
    subst (IsTried form.formula form.area.spans c.args.tables.now.splits) c.in-Point.is c.in_ok-tried.ensures in
    point-told c.laws.ensures c.args.tables.now n parts form is c.requires.some c.in-Point.values point c.in_ok-history-in-Point.history
    (subst (λ vs. AreRows c.args.tables.now form.names vs n c.in_ok-history-in-Point.history) c.as_slice-in-Point.ensures
    (subst (λ ns. AreRows c.args.tables.now ns c.as_slice-in-Point.result.now n c.in_ok-history-in-Point.history) c.as_slice.ensures
    c.in_ok-history-in-Point.ensures))

pub returns-in-Spent : goal.returns-in-Spent
returns-in-Spent c parts is =
    let form = c.args.form.now in
    spent-settled c.laws.ensures c.args.tables.now c.args.scans parts form is c.args.tables.now.splits c.in-Spent.tree
    (subst (IsTried form.formula form.area.spans c.args.tables.now.splits) c.in-Spent.is c.in_ok-tried.ensures)
