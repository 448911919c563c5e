use Rattle.std.proofs.Common.{rules, ◌≡◌, ◌∙◌, sym, ap, ℤ, pos, neg_ℤ, ◌+ℤ◌, ◌-ℤ◌, cond, w64, arith}
use Rattle.std.specs.Int.{w128}
use Rattle.std.proofs.lemmas.Int.{to_z-of_z}
use Rattle.std.proofs.lemmas.List.{get_or_read}
use Rattle.ft_linear.specs.meaning.Form.{LinView, low_end, span_at}
use Rattle.ft_linear.specs.meaning.Rules.{factor_of, literal_form, narrowed}
use Rattle.ft_linear.proofs.SingleLaws.{literal-constant, literal-factor_of}
use mir.Val.{SFits, to_z, of_z}
use Rattle.ft_linear.proofs.rules.single_span.Goals as goal

pub returns : goal.returns
returns c =
    let spans = c.args.spans.now in
    let form = c.args.form.now in
    let u = c.args.unknown in
    let s = c.args.value in
    let m : LinView = literal_form s form in
    let fits_own : SFits w64 c.factor_of.result = search rules in
    let fits_factor : SFits w64 c.literal_factor-factor.result = search rules in
    let fits_wide : SFits w128 c.from.result = search rules in
    let fits_given : SFits w64 c.constant.result = search rules in
    let fits_constant : SFits w64 c.literal_constant-constant.result = search rules in
    let fits_least : SFits w128 c.least_of_literal-least.result = search rules in
    let fits_lowest : SFits w128 c.lowest.result = search rules in
    let fits_sum : SFits w128 c.with_others.result = search rules in
    let span : c.index-spans-unknown.result ≡ span_at spans u = get_or_read spans u c.index-spans-unknown.result (omega arith)
    c.index-spans-unknown.is (pos 0, pos 0) in
    let factor : to_z w64 (of_z w64 c.literal_factor-factor.result) ≡ factor_of u m.factors =
    to_z-of_z w64 c.literal_factor-factor.result fits_factor ∙ c.literal_factor-factor.ensures.value
    ∙ ap (λ (z : ℤ). cond s z (neg_ℤ z)) (to_z-of_z w64 c.factor_of.result fits_own ∙ c.factor_of.ensures.value
    ∙ ap (factor_of u) c.factors.ensures.value) ∙ sym (literal-factor_of u s form) in
    let wide = to_z-of_z w128 c.from.result fits_wide ∙ c.from.ensures ∙ factor in
    let constant : to_z w64 (of_z w64 c.literal_constant-constant.result) ≡ m.constant =
    to_z-of_z w64 c.literal_constant-constant.result fits_constant ∙ c.literal_constant-constant.ensures.value
    ∙ ap (λ (z : ℤ). cond s z (pos 1 -ℤ z)) (to_z-of_z w64 c.constant.result fits_given ∙ c.constant.ensures.value)
    ∙ sym (literal-constant s form) in
    let least = to_z-of_z w128 c.least_of_literal-least.result fits_least ∙ c.least_of_literal-least.ensures.value in
    let low = to_z-of_z w128 c.lowest.result fits_lowest ∙ c.lowest.ensures.value ∙ (λ i. low_end (factor i) (span i)) in
    let sum = to_z-of_z w128 c.with_others.result fits_sum ∙ c.with_others.ensures.value ∙ (λ i. constant i +ℤ (least i -ℤ low i)) in
    c.narrowed.ensures ∙ (λ i. narrowed (wide i) (sum i) (span i))
