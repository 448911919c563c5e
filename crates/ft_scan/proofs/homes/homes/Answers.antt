use Rattle.std.proofs.Common.{◌≡◌, ◌∙◌, ◌+◌, sym, ap, subst, refl, length, slice_get, Some}
use Rattle.std.proofs.lemmas.Option.{slice_get_read}
use Rattle.ft_scan.specs.steps.Homes.{AreHomes}
use Rattle.ft_scan.proofs.HomeLemmas.{one-table, other-table}
use Rattle.ft_scan.proofs.homes.homes.Goals as goal
use Rattle.ft_scan.proofs.homes.homes.Goals.{then-is, else-is}

there : (c : goal.Joined-is) → slice_get c.args.tables.now c.tables.at ≡ Some c.index-tables-at.result
there c = slice_get_read c.args.tables.now (length c.args.tables.now) c.tables.at c.index-tables-at.result refl c.tables-test.true
    c.index-tables-at.is

-- src/homes.rt:59:5
pub tables-preserved : goal.tables-preserved
tables-preserved c = elim c.if-is.branch [
  | then-is w ↦ (
    ap length w.homes-is ∙ w.put_table_homes.ensures.long ∙ c.tables.invariant.0,
    subst (AreHomes c.args.tables.now c.args.section (c.tables.at + 1)) (sym w.homes-is)
        (one-table c.args.tables.now c.args.section c.tables.at c.index-tables-at.result c.tables.homes w.put_table_homes.new.homes
        (there c)
        (sym c.is.ensures ∙ w.if-is.true) w.put_table_homes.ensures c.tables.invariant.1),
  )
  | else-is w ↦ (
    ap length w.homes-is ∙ c.tables.invariant.0,
    subst (AreHomes c.args.tables.now c.args.section (c.tables.at + 1)) (sym w.homes-is)
        (other-table c.args.tables.now c.args.section c.tables.at c.index-tables-at.result c.tables.homes (there c)
        (sym c.is.ensures ∙ w.if-is.false) c.tables.invariant.1),
  )
]
