use Rattle.std.proofs.Common.{rules, ◌∙◌, sym, ap, subst, set, w64, pos, ℤ, ◌+ℤ◌, ◌*ℤ◌, ◌<◌, length, slice_index_or, arith}
use Rattle.std.proofs.lemmas.Int.{to_z-of_z}
use Rattle.std.proofs.lemmas.List.{take_all}
use Rattle.ft_linear.specs.meaning.Form.{Factor, values_at}
use Rattle.ft_linear.specs.meaning.Rules.{factor_of}
use Rattle.ft_linear.specs.summing.Totals.{AreAdded}
use Rattle.ft_linear.proofs.FormLemmas.{small-at, small-same, small-read}
use Rattle.ft_linear.proofs.TotalLemmas.{added-more, none-added, small-factor, within-added}
use mir.Val.{SFits, to_z, of_z}
use Rattle.ft_linear.proofs.totals.add_factors.Goals as goal

pub add_at-requires-clause-total : goal.add_at-requires-clause-total
add_at-requires-clause-total c =
    none-added c.args.factors.now c.loop-factor.factor-index (0, pos 0) c.loop-factor-test.true c.args.totals.now c.loop-factor.totals _
    c.args.count c.requires.rising c.requires.small c.loop-factor.invariant

pub add_at-requires-clause-factor : goal.add_at-requires-clause-factor
add_at-requires-clause-factor c =
    let small = small-read (slice_index_or c.args.factors.now c.loop-factor.factor-index (0, pos 0)).1
    (small-at 0 c.args.factors.now c.loop-factor.factor-index (0, pos 0) c.requires.rising c.loop-factor-test.true) in
    omega (arith, small)

pub loop-factor-preserved : goal.loop-factor-preserved
loop-factor-preserved c =
    let fs = c.args.factors.now in
    let i = c.loop-factor.factor-index in
    let d : Factor = (0, pos 0) in
    let g : Factor = slice_index_or fs i d in
    let there : g.0 < length c.loop-factor.totals = omega (arith, c.requires.over i d c.loop-factor-test.true, c.loop-factor.auto.totals) in
    let same = small-same g.1 (small-at 0 fs i d c.requires.rising c.loop-factor-test.true) in
    let z : ℤ = to_z w64 (of_z w64 c.args.times) in
    subst (AreAdded c.args.totals.now z _) (sym (c.add_at.ensures
    ∙ ap (λ (y : ℤ). set c.loop-factor.totals g.0 (values_at c.loop-factor.totals g.0 +ℤ (z *ℤ y))) same))
    (added-more fs i d c.loop-factor-test.true c.args.totals.now c.loop-factor.totals z c.loop-factor.invariant there)

pub returns-clause-added : goal.returns-clause-added
returns-clause-added c u =
    let fits : SFits w64 c.args.times = search rules in
    let times = to_z-of_z w64 c.args.times fits in
    let whole = take_all c.loop-factor.factor-index c.args.factors.now (omega (arith, c.loop-factor-test.false)) in
    c.loop-factor.invariant u ∙ (λ j. values_at c.args.totals.now u +ℤ (times j *ℤ factor_of u (whole j)))

pub returns-clause-small : goal.returns-clause-small
returns-clause-small c =
    within-added c.args.count c.args.totals.now c.loop-factor.totals c.args.times c.args.factors.now c.requires.small c.requires.times
    (λ u. small-factor 0 u c.args.factors.now c.requires.rising) (returns-clause-added c)
