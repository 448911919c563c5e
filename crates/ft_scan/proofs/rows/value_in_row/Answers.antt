use Rattle.std.proofs.Common.{◌≡◌, ◌∙◌, sym, ap, rules, arith, List, slice_index_or, length, pos, FitsSigned, w64}
use Rattle.std.proofs.lemmas.Int.{to_z-of_z}
use Rattle.std.proofs.lemmas.Option.{slice_get_past}
use Rattle.ft_core.specs.declared.tables.Var.{Var}
use Rattle.ft_core.specs.meaning.Kinds.{of_kind}
use Rattle.ft_scan.proofs.PlaceLemmas.{got, kinds_compare, told_value, told_init}
use Rattle.ft_scan.proofs.ListedLemmas.{of_var}
use Rattle.ft_scan.proofs.RowLemmas.{no_reading}
use Rattle.ft_scan.proofs.rows.value_in_row.Goals as goal

pub kind_place-place-requires : goal.kind_place-place-requires
kind_place-place-requires c =
    of_var (of_kind c.args.kind) c.args.tables.now.vars c.args.variable c.in-Some.var.now
    (got c.args.tables.now.vars c.as_slice.result.now c.args.variable c.in-Some.var.now c.as_slice.ensures c.in-Some.ensures.lookup.0
    c.in-Some.ensures.lookup.1)
    ∙ sym (kinds_compare c.args.kind c.in-Some.var.now.kind) ∙ sym c.eq.ensures ∙ c.if-eq.true

pub returns-in-Some : goal.returns-in-Some
returns-in-Some c =
    let read : c.unwrap_or.result ≡ slice_index_or c.args.row.now c.kind_place-place.result (pos 0) = search rules in
    let fits : FitsSigned w64 c.unwrap_or.result = search rules in
    simp to_z-of_z (read ∙ ap (λ p. slice_index_or c.args.row.now p (pos 0)) c.kind_place-place.ensures
    ∙ told_value c.args.tables.now c.args.kind c.args.row.now c.args.variable c.in-Some.var.now
    (got c.args.tables.now.vars c.as_slice.result.now c.args.variable c.in-Some.var.now c.as_slice.ensures c.in-Some.ensures.lookup.0
    c.in-Some.ensures.lookup.1)
    (sym (kinds_compare c.args.kind c.in-Some.var.now.kind) ∙ sym c.eq.ensures ∙ c.if-eq.true))

pub returns-in-Some-2 : goal.returns-in-Some-2
returns-in-Some-2 c =
    let fits : FitsSigned w64 c.in-Some.var.now.init = search rules in
    simp to_z-of_z (told_init c.args.tables.now c.args.kind c.args.row.now c.args.variable c.in-Some.var.now
    (got c.args.tables.now.vars c.as_slice.result.now c.args.variable c.in-Some.var.now c.as_slice.ensures c.in-Some.ensures.lookup.0
    c.in-Some.ensures.lookup.1)
    (sym (kinds_compare c.args.kind c.in-Some.var.now.kind) ∙ sym c.eq.ensures ∙ c.if-eq.false))

pub returns-in-None : goal.returns-in-None
returns-in-None c = sym (no_reading c.args.tables.now (of_kind c.args.kind) c.args.row.now c.args.variable
    (slice_get_past c.args.tables.now.vars c.args.variable (omega (
      arith,
      c.in-None.ensures.lookup.3,
      ap (λ (vars : List Var). length vars) c.as_slice.ensures,
    ))))
