use Rattle.std.proofs.Common.{◌≡◌, ◌∙◌, sym, ap, ◌+◌, arith, slice_get, Some}
use Rattle.std.proofs.lemmas.Option.{slice_get-get_or}
use Rattle.ft_mean.specs.judge.Scope.{kinds_of}
use Rattle.ft_core.specs.laws.VarPlaces.{counted, passed}
use Rattle.ft_mean.proofs.scope.place_of.Goals as goal
use Rattle.ft_mean.proofs.scope.place_of.Goals.{then-has, else-has}

pub loop-place-preserved : goal.loop-place-preserved
loop-place-preserved c =
    let there : slice_get c.args.vars.now c.loop-place.place ≡ Some c.index-vars-place.result =
    slice_get-get_or c.args.vars.now c.loop-place.place c.index-vars-place.result
    (omega (arith, c.loop-place-test.true, c.min-place-end.ensures)) ∙ ap Some (sym c.index-vars-place.is) in
    elim c.if-has.branch [
      | then-has w ↦ (
        w.count-is ∙ ap (λ n. n + 1) c.loop-place.invariant.0
            ∙ sym (counted (kinds_of c.args.scope) c.args.vars.now c.loop-place.place c.index-vars-place.result there
            (sym w.if-has.ensures)),
        omega (arith, w.count-is, c.loop-place.invariant.1),
      )
      | else-has w ↦ (
        w.count-is ∙ c.loop-place.invariant.0
            ∙ sym (passed (kinds_of c.args.scope) c.args.vars.now c.loop-place.place c.index-vars-place.result there
            (sym w.if-has.ensures)),
        omega (arith, w.count-is, c.loop-place.invariant.1),
      )
    ]
