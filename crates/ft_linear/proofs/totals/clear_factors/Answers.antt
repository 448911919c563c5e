use Rattle.std.proofs.Common.{◌∙◌, ap, pos, cond, arith, ◌<◌, length, slice_index_or}
use Rattle.std.proofs.lemmas.List.{take_all}
use Rattle.ft_linear.specs.meaning.Form.{Factor, values_at}
use Rattle.ft_linear.specs.summing.Totals.{is_free}
use Rattle.ft_linear.proofs.TotalLemmas.{cleared-more}
use Rattle.ft_linear.proofs.totals.clear_factors.Goals as goal

pub loop-factor-preserved : goal.loop-factor-preserved
loop-factor-preserved c =
    let fs = c.args.factors.now in
    let i = c.loop-factor.factor-index in
    let d : Factor = (0, pos 0) in
    let there : (slice_index_or fs i d).0 < length c.loop-factor.totals =
    omega (arith, c.requires i d c.loop-factor-test.true, c.loop-factor.auto.totals) in
    cleared-more fs i d c.loop-factor-test.true c.args.totals.now c.loop-factor.totals c.loop-factor.invariant there

pub returns : goal.returns
returns c u =
    let whole = take_all c.loop-factor.factor-index c.args.factors.now (omega (arith, c.loop-factor-test.false)) in
    c.loop-factor.invariant u ∙ ap (λ fs. cond (is_free u fs) (values_at c.args.totals.now u) (pos 0)) whole
