use Rattle.std.proofs.Common.{rules, ◌∙◌, ap, subst, ◌<◌, ◌≤ℤ◌, ◌<ℤ◌, ℤ, pos, List, length, Option}
use Rattle.std.proofs.Common.{FitsSigned, w64}
use Rattle.std.proofs.Common.{to_z-of_z}
use Rattle.ft_linear.specs.meaning.Form.{span_at}
use Rattle.ft_cert.specs.declared.node.CertNode.TheVariants as node
use Rattle.ft_cert.specs.declared.step.Step.{Step}
use Rattle.ft_cert.specs.walk.Steps.{IsStepOf}
use Rattle.ft_search.specs.meaning.Spent.{middle_of}
use Rattle.ft_search.proofs.TurnLemmas.{cut-counts, cut-turn, read-span}
use Rattle.ft_search.proofs.turns.cut_turn.Goals as goal

pub unreachable-requires-in-None : goal.unreachable-requires-in-None
unreachable-requires-in-None c =
    let f = c.args.formula.now in
    let p = c.args.part.now in
    let fits : FitsSigned w64 c.middle-value.result = search rules in
    let step = simp to_z-of_z at (c.cut_step.ensures f) in
    let none = subst (λ (o : Option Step). IsStepOf f p (node.R c.in-Some.unknown c.middle-value.result) o) c.in-None.is step in
    let spans = c.as_slice-spans.ensures ∙ c.area.ensures in
    let wide = c.in-Some.ensures.some in
    let read = read-span c.as_slice-spans.result.now c.in-Some.unknown c.index-spans-unknown.result (pos 0, pos 0) wide.0
    c.index-spans-unknown.is
    ∙ ap (λ (ss : List (ℤ × ℤ)). span_at ss c.in-Some.unknown) spans in
    none (record {
      unknown = subst (λ (ss : List (ℤ × ℤ)). c.in-Some.unknown < length ss) spans wide.0;
      from = subst (λ (s : ℤ × ℤ). s.0 ≤ℤ c.middle-value.result) read c.middle-value.ensures.from;
      below = subst (λ (s : ℤ × ℤ). c.middle-value.result <ℤ s.1) read c.middle-value.ensures.below;
    })

pub returns-clause-turn : goal.returns-clause-turn
returns-clause-turn c enough halved denied =
    let f = c.args.formula.now in
    let p = c.args.part.now in
    let fits : FitsSigned w64 c.middle-value.result = search rules in
    let step = simp to_z-of_z at (c.cut_step.ensures f) in
    let some = subst (λ (o : Option Step). IsStepOf f p (node.R c.in-Some.unknown c.middle-value.result) o) c.in-Some-cut_step.is step in
    let spans = c.as_slice-spans.ensures ∙ c.area.ensures in
    let wide = c.in-Some.ensures.some in
    let read = read-span c.as_slice-spans.result.now c.in-Some.unknown c.index-spans-unknown.result (pos 0, pos 0) wide.0
    c.index-spans-unknown.is
    ∙ ap (λ (ss : List (ℤ × ℤ)). span_at ss c.in-Some.unknown) spans in
    rw (to_z-of_z fits)
    (cut-turn f p c.in-Some.unknown c.middle-value.result c.in-Some-cut_step.step some enough halved
    (record { maybe = c.requires.maybe; solution = c.requires.solution; none = denied })
    (c.middle-value.ensures.value ∙ (λ i. middle_of (read i))))

pub returns-clause-splits : goal.returns-clause-splits
returns-clause-splits c =
    let f = c.args.formula.now in
    let p = c.args.part.now in
    let fits : FitsSigned w64 c.middle-value.result = search rules in
    let step = simp to_z-of_z at (c.cut_step.ensures f) in
    let some = subst (λ (o : Option Step). IsStepOf f p (node.R c.in-Some.unknown c.middle-value.result) o) c.in-Some-cut_step.is step in
    (cut-counts f p c.in-Some.unknown c.middle-value.result c.in-Some-cut_step.step some).0
