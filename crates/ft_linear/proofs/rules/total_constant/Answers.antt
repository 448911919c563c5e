use Rattle.std.proofs.Common.{rules, ◌≡◌, ◌∙◌, sym, pos, ◌+ℤ◌, ◌*ℤ◌, slice_index_or, false, w64}
use Rattle.std.specs.Int.{w128}
use Rattle.std.proofs.lemmas.Int.{to_z-of_z}
use Rattle.ft_linear.specs.declared.lines.Line.{Line}
use Rattle.ft_linear.specs.declared.lines.Line.TheVariants.{Atom}
use Rattle.ft_linear.specs.meaning.Rules.{constant_in, line_form, times_of}
use Rattle.ft_linear.proofs.RuleLemmas.{constant-more}
use mir.Val.{SFits}
use Rattle.ft_linear.proofs.rules.total_constant.Goals as goal

pub lines-preserved : goal.lines-preserved
lines-preserved c =
    let f = c.args.formula.now in
    let p = c.args.part.now in
    let d : Line = Atom 0 false 0 in
    let l : Line = slice_index_or c.args.lines.now c.lines.at d in
    let fits_read : SFits w64 c.line_constant-constant.result = search rules in
    let fits_times : SFits w64 c.signed.result = search rules in
    let term : c.product.result ≡ pos (times_of l) *ℤ constant_in (line_form f p l) = c.product.ensures.value
    ∙ (λ i. (to_z-of_z w64 c.signed.result fits_times ∙ c.signed.ensures.value ∙ (λ j. pos (c.times_of.ensures j))) i *ℤ (to_z-of_z w64 c.line_constant-constant.result fits_read
    ∙ c.line_constant-constant.ensures.value) i) in
    let fits : SFits w128 c.plus-total.result = search rules in
    let fits_term : SFits w128 c.product.result = search rules in
    let sum = rw (to_z-of_z w128 c.product.result fits_term) at c.plus-total.ensures.sum in
    let before = c.lines.invariant.0 in
    rw (to_z-of_z w128 c.plus-total.result fits)
    (sum ∙ (λ i. before i +ℤ term i) ∙ sym (constant-more f p c.args.lines.now c.lines.at d c.lines-test.true), c.plus-total.ensures.small)
