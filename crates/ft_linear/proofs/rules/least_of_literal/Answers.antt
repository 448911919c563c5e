use Rattle.std.proofs.Common.{rules, ◌∙◌, sym, ap, neg_ℤ, cond}
use Rattle.std.specs.Int.{w128}
use Rattle.std.proofs.lemmas.Int.{to_z-of_z}
use Rattle.ft_linear.specs.meaning.Form.{least, most}
use Rattle.ft_linear.proofs.SingleLaws.{literal-least}
use mir.Val.{SFits}
use Rattle.ft_linear.proofs.rules.least_of_literal.Goals as goal

pub returns-else-value-clause-value : goal.returns-else-value-clause-value
returns-else-value-clause-value c =
    let spans = c.args.spans.now in
    let form = c.args.form.now in
    let fits : SFits w128 c.most_of.result = search rules in
    let value = to_z-of_z w128 c.most_of.result fits ∙ c.most_of.ensures.value ∙ ap (most spans) c.factors-else-value.ensures.value in
    let fits_opposite : SFits w128 c.opposite.result = search rules in
    to_z-of_z w128 c.opposite.result fits_opposite ∙ c.opposite.ensures.value ∙ ap neg_ℤ value
    ∙ sym (literal-least spans c.args.value form ∙ ap (λ b. cond b (least spans form.factors) (neg_ℤ (most spans form.factors)))
    c.if-value.false)
