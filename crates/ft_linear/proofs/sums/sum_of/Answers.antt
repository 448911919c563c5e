use Rattle.std.proofs.Common.{rules, ◌≡◌, ◌∙◌, sym, slice_index_or, pos, ◌+ℤ◌, ◌*ℤ◌}
use Rattle.std.specs.Int.{w128}
use Rattle.std.proofs.lemmas.Int.{to_z-of_z}
use Rattle.ft_linear.specs.meaning.Form.{Factor, values_at}
use Rattle.ft_linear.proofs.FormLemmas.{small-at, small-same, small-read, sum-more}
use mir.Val.{SFits}
use Rattle.ft_linear.proofs.sums.sum_of.Goals as goal

pub product-requires-clause-factor : goal.product-requires-clause-factor
product-requires-clause-factor c = small-read (slice_index_or c.args.factors.now c.factors.at (0, pos 0)).1
    (small-at 0 c.args.factors.now c.factors.at (0, pos 0) c.requires.rising c.factors-test.true)

pub factors-preserved : goal.factors-preserved
factors-preserved c =
    let d : Factor = (0, pos 0) in
    let g : Factor = slice_index_or c.args.factors.now c.factors.at d in
    let factor = small-same g.1 (small-at 0 c.args.factors.now c.factors.at d c.requires.rising c.factors-test.true) in
    let value = small-same (values_at c.args.values.now g.0) (c.requires.small g.0 (pos 0)
    (c.requires.over c.factors.at d c.factors-test.true)) in
    let term : c.product.result ≡ g.1 *ℤ values_at c.args.values.now g.0 = c.product.ensures.value ∙ (λ i. factor i *ℤ value i) in
    let fits : SFits w128 c.plus-total.result = search rules in
    let fits_term : SFits w128 c.product.result = search rules in
    let sum = rw (to_z-of_z w128 c.product.result fits_term) at c.plus-total.ensures.sum in
    let before = c.factors.invariant.0 in
    rw (to_z-of_z w128 c.plus-total.result fits) (
      sum ∙ (λ i. before i +ℤ term i) ∙ sym (sum-more c.args.factors.now c.factors.at d c.factors-test.true (values_at c.args.values.now)),
      c.plus-total.ensures.small,
    )
