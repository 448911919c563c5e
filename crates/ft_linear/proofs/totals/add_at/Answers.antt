use Rattle.std.proofs.Common.{rules, ◌∙◌, ap, set, w64, ◌+ℤ◌, ◌*ℤ◌, arith}
use Rattle.std.specs.Int.{w128}
use Rattle.std.proofs.lemmas.Int.{to_z-of_z, fits_signed_from_abs}
use Rattle.ft_linear.specs.meaning.Form.{values_at}
use mir.Val.{SFits}
use Rattle.ft_linear.proofs.totals.add_at.Goals as goal

pub returns : goal.returns
returns c =
    let fits : SFits w128 c.plus.result = search rules in
    let fits_term : SFits w128 c.product.result = search rules in
    let fits_times : SFits w64 c.args.times = search rules in
    let fits_factor : SFits w64 c.args.factor = search rules in
    let read = to_z-of_z w128 (values_at c.args.totals.now c.args.unknown)
    (fits_signed_from_abs w128 (values_at c.args.totals.now c.args.unknown) (omega (arith, c.requires.total, c.requires.count))) in
    let term = to_z-of_z w128 c.product.result fits_term ∙ c.product.ensures.value
    ∙ (λ i. to_z-of_z w64 c.args.times fits_times i *ℤ to_z-of_z w64 c.args.factor fits_factor i) in
    ap (set c.args.totals.now c.args.unknown) (to_z-of_z w128 c.plus.result fits ∙ c.plus.ensures.sum ∙ (λ i. read i +ℤ term i))
