use Rattle.std.proofs.Common.{◌≡◌, ◌∙◌, sym, ap, filter, length, arith}
use Rattle.std.specs.List.{range_with_len}
use Rattle.ft_core.specs.laws.Places.{item-there}
use Rattle.ft_core.specs.meaning.Kinds.{defined_kinds, is_of}
use Rattle.ft_unroll.proofs.StepLemmas.{chosen-more, passed-over, is-of-there}
use Rattle.ft_unroll.proofs.defining.defined_places.Goals as goal
use Rattle.ft_unroll.proofs.defining.defined_places.Goals.{then-defines+in_ok-push, else-defines}

pub loop-place-preserved : goal.loop-place-preserved
loop-place-preserved c =
    let vars = c.args.tables.now.vars in
    let kinds = defined_kinds c.args.section in
    let there = item-there vars c.as_slice-var-items.result.now c.loop-place.place c.var-item.result
    c.as_slice-var-items.ensures c.loop-place-test.true c.var-item.is in
    let its = is-of-there vars kinds c.loop-place.place c.var-item.result there ∙ sym c.defines.ensures in
    elim c.if-defines.branch [
      | then-defines+in_ok-push w ↦
          chosen-more (is_of vars kinds) c.loop-place.place c.loop-place.places c.if-defines.places c.loop-place.invariant
          (its ∙ w.if-defines.true) (w.places-is ∙ w.in_ok-push.ensures.ok)
      | else-defines w ↦
          passed-over (is_of vars kinds) c.loop-place.place c.loop-place.places c.if-defines.places c.loop-place.invariant
          (its ∙ w.if-defines.false) w.places-is
    ]

pub returns : goal.returns
returns c =
    let long = ap length c.as_slice-var-items.ensures in
    let same : c.loop-place.place ≡ length c.args.tables.now.vars =
    omega (arith, long, c.loop-place-test.false, c.loop-place.auto.place-end) in
    c.loop-place.invariant
    ∙ ap (λ k. filter (is_of c.args.tables.now.vars (defined_kinds c.args.section)) (range_with_len 0 k)) same
