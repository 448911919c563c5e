use Rattle.std.proofs.Common.{◌∙◌, sym, ap, refl, arith, true≢false}
use Rattle.std.proofs.lemmas.Option.{slice_get_within, same_Some, slice_get_read}
use Rattle.ft_mean.specs.meaning.Value.{truth}
use Rattle.ft_scan.specs.steps.Found.{IsTrueAt}
use Rattle.ft_scan.proofs.FoundLemmas.{one_more}
use Rattle.ft_scan.proofs.cells.first_that_holds.Goals as goal

pub loop-at-preserved : goal.loop-at-preserved
loop-at-preserved g c = one_more (λ j. IsTrueAt (g.L.Look.view c.args.look.now) c.args.conds.now j → ⊥) c.loop-at.at c.loop-at.invariant
    (λ held. true≢false (sym held.2 ∙ ap (truth (g.L.Look.view c.args.look.now))
    (same_Some _ _ (sym held.1 ∙ slice_get_read c.args.conds.now _ c.loop-at.at _ refl c.loop-at-test.true c.index-conds-at.is))
    ∙ sym c.truth_of.ensures ∙ c.if-truth_of.false))

pub returns : goal.returns
returns g c = λ at held. c.loop-at.invariant at (let below = slice_get_within c.args.conds.now at held.0 held.1 in
    omega (arith, below, c.loop-at-test.false)) held
