use Rattle.std.proofs.Common.{◌≡◌, ◌∙◌, sym, ap, subst, arith, true, slice_set, FitsSigned, w64}
use Rattle.std.proofs.lemmas.Bool.{cond-true, cond-false}
use Rattle.std.proofs.lemmas.Int.{to_z-of_z}
use Rattle.ft_core.specs.meaning.Kinds.{Kinds, defined_kinds, is_of, place_of}
use Rattle.ft_scan.proofs.ListedLemmas.{of_var}
use Rattle.ft_scan.proofs.PlaceLemmas.{got, same_image}
use Rattle.ft_scan.proofs.mapping.put_value.Goals as goal

pub image_place-requires-clause-variable : goal.image_place-requires-clause-variable
image_place-requires-clause-variable c =
    subst (λ (k : Kinds). is_of c.args.tables.now.vars k c.args.variable ≡ true) (sym (same_image c.args.section))
    (of_var (defined_kinds c.args.section) c.args.tables.now.vars c.args.variable c.in-Some.var.now
    (got c.args.tables.now.vars c.as_slice.result.now c.args.variable c.in-Some.var.now c.as_slice.ensures c.in-Some.ensures.lookup.0
    c.in-Some.ensures.lookup.1) ∙ sym c.defines.ensures ∙ c.if-defines.true)

pub bounds-image-image_place : goal.bounds-image-image_place
bounds-image-image_place c =
    let kind = sym c.defines.ensures ∙ c.if-defines.true in
    let place = c.image_place.ensures ∙ ap (λ (k : Kinds). place_of k c.args.tables.now.vars c.args.variable) (same_image c.args.section) in
    let below = c.laws.ensures.inside c.args.tables.now (defined_kinds c.args.section) c.args.variable c.in-Some.var.now (
      got c.args.tables.now.vars c.as_slice.result.now c.args.variable c.in-Some.var.now c.as_slice.ensures c.in-Some.ensures.lookup.0
          c.in-Some.ensures.lookup.1,
      kind,
    ) in
    omega (arith, place, below, c.requires.room)

pub returns-then-defines : goal.returns-then-defines
returns-then-defines c =
    let kind = sym c.defines.ensures ∙ c.if-defines.true in
    let place = c.image_place.ensures ∙ ap (λ (k : Kinds). place_of k c.args.tables.now.vars c.args.variable) (same_image c.args.section) in
    let fits : FitsSigned w64 c.args.value = c.ranges.value in
    simp to_z-of_z (ap (λ p. slice_set c.args.image.now p c.args.value) place
    ∙ sym (cond-true (is_of c.args.tables.now.vars (defined_kinds c.args.section) c.args.variable)
    (slice_set c.args.image.now (place_of (defined_kinds c.args.section) c.args.tables.now.vars c.args.variable) c.args.value)
    c.args.image.now (of_var (defined_kinds c.args.section) c.args.tables.now.vars c.args.variable c.in-Some.var.now
    (got c.args.tables.now.vars c.as_slice.result.now c.args.variable c.in-Some.var.now c.as_slice.ensures c.in-Some.ensures.lookup.0
    c.in-Some.ensures.lookup.1) ∙ kind)))

pub returns-else-defines : goal.returns-else-defines
returns-else-defines c =
    sym (cond-false (is_of c.args.tables.now.vars (defined_kinds c.args.section) c.args.variable)
    (slice_set c.args.image.now (place_of (defined_kinds c.args.section) c.args.tables.now.vars c.args.variable) c.args.value)
    c.args.image.now (of_var (defined_kinds c.args.section) c.args.tables.now.vars c.args.variable c.in-Some.var.now
    (got c.args.tables.now.vars c.as_slice.result.now c.args.variable c.in-Some.var.now c.as_slice.ensures c.in-Some.ensures.lookup.0
    c.in-Some.ensures.lookup.1) ∙ sym c.defines.ensures ∙ c.if-defines.false))
