use Rattle.std.proofs.Common.{rules, ◌∙◌, sym, arith, pos, length, ap}
use Rattle.std.specs.Int.{w128}
use Rattle.std.proofs.lemmas.Int.{to_z-of_z}
use Rattle.std.proofs.lemmas.List.{get_or_read}
use Rattle.ft_linear.specs.meaning.Form.{span_at}
use Rattle.ft_linear.specs.meaning.Rules.{narrowed}
use Rattle.ft_linear.proofs.PartLaws.{in-span}
use Rattle.ft_linear.proofs.RuleLemmas.{within-tightened, IfSome_each}
use mir.Val.{SFits}
use Rattle.ft_linear.proofs.rules.tighten.Goals as goal

pub returns-clause-within : goal.returns-clause-within
returns-clause-within c = IfSome_each c.narrowed.result (λ t e x area holds.
    let f = c.args.formula.now in
    let p = c.args.part.now in
    let u = c.args.unknown in
    let spans = c.as_slice-spans.ensures ∙ c.area.ensures in
    let long = ap length spans in
    let fits_factor : SFits w128 c.in-Some.factor = search rules in
    let fits_constant : SFits w128 c.total_constant.result = search rules in
    let factor = to_z-of_z w128 c.in-Some.factor fits_factor ∙ c.in-Some.ensures.value in
    let constant = to_z-of_z w128 c.total_constant.result fits_constant ∙ c.total_constant.ensures.value in
    let span = get_or_read c.as_slice-spans.result.now u c.index-spans-unknown.result (omega arith) c.index-spans-unknown.is (pos 0, pos 0)
    ∙ ap (λ l. span_at l u) spans in
    within-tightened f p x area holds u c.args.lines.now t (in-span p.spans x u area (omega (arith, long))) (record {
      unknown = omega (arith, long);
      lines = sym c.are_lines.ensures ∙ c.if-not-are_lines.false;
      alone = c.in-Some.ensures.alone;
      narrows = sym (c.narrowed.ensures ∙ (λ i. narrowed (factor i) (constant i) (span i))) ∙ e;
    }))
