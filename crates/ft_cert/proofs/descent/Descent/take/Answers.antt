use Rattle.std.proofs.Common.{◌≡◌, ◌∙◌, ap, subst, true, ◌<◌, length, ℕ, None, Some, slice_get, arith}
use Rattle.std.specs.Prelude.{nat_lt}
use Rattle.std.proofs.lemmas.List.{length-set}
use Rattle.std.proofs.lemmas.Option.{slice_get_within}
use Rattle.ft_linear.specs.meaning.Part.{PartView}
use Rattle.ft_cert.specs.declared.descent.Undo.TheVariants.{Case}
use Rattle.ft_cert.specs.declared.step.Step.TheVariants as step
use Rattle.ft_cert.specs.walk.Steps.{CanStep}
use Rattle.ft_cert.specs.walk.Waiting.{DescentView}
use Rattle.ft_cert.proofs.StepLemmas.{first-is, step-cut, step-decide, step-tighten, take-parts, valid-push}
use Rattle.ft_cert.proofs.descent.Descent.take.Goals as goal

pub invariant_of-self-in-Decide : goal.invariant_of-self-in-Decide
invariant_of-self-in-Decide c =
    let p = c.self.inside.part in
    let view = ap (λ (w : DescentView). w.parts) c.self.view_is in
    let first = first-is c.self.inside.ended p _ c.args.self.now.parts view c.requires.waits in
    let undecided : slice_get p.decided c.in-Decide.atom ≡ Some None =
    subst (λ (r : PartView). CanStep r (step.Decide c.in-Decide.atom)) first (rw c.in-Decide.is at c.requires.step) in
    valid-push (length p.spans) (length p.decided) _ _ c.self.inside.undone.items _ (Case c.in-Decide.atom)
    (ap length c.decide.ensures.spans) (ap length c.decide.ensures.decided ∙ length-set p.decided c.in-Decide.atom (Some true))
    c.push-in-Decide.ensures.items c.self.invariant (under _ _ (slice_get_within p.decided c.in-Decide.atom None undecided))
  where
    under : (k n : ℕ) → k < n → nat_lt k n ≡ true
    under k n h = grind (arith, h)

pub returns-in-Cut-clause-parts : goal.returns-in-Cut-clause-parts
returns-in-Cut-clause-parts c =
    let p = c.self.inside.part in
    let view = ap (λ (w : DescentView). w.parts) c.self.view_is in
    take-parts c.self.inside.ended p c.cut.new.self _ _ c.args.self.now.parts c.args.step _ view c.requires.waits c.in-Cut.is
    (step-cut p c.cut.new.self c.self.inside.undone.items c.push.new.self.items c.in-Cut.unknown c.span_of-whole.result
    c.in-Cut.low c.in-Cut.high c.span_of-whole.ensures c.push.ensures.items c.cut.ensures.spans c.cut.ensures.decided)

pub returns-in-Decide-clause-parts : goal.returns-in-Decide-clause-parts
returns-in-Decide-clause-parts c =
    let p = c.self.inside.part in
    let view = ap (λ (w : DescentView). w.parts) c.self.view_is in
    let first = first-is c.self.inside.ended p _ c.args.self.now.parts view c.requires.waits in
    let undecided : slice_get p.decided c.in-Decide.atom ≡ Some None =
    subst (λ (r : PartView). CanStep r (step.Decide c.in-Decide.atom)) first (rw c.in-Decide.is at c.requires.step) in
    take-parts c.self.inside.ended p c.decide.new.self _ _ c.args.self.now.parts c.args.step _ view c.requires.waits c.in-Decide.is
    (step-decide p c.decide.new.self c.self.inside.undone.items c.push-in-Decide.new.self.items c.in-Decide.atom undecided
    c.push-in-Decide.ensures.items c.decide.ensures.spans c.decide.ensures.decided)

pub returns-in-Tighten-clause-parts : goal.returns-in-Tighten-clause-parts
returns-in-Tighten-clause-parts c =
    let p = c.self.inside.part in
    let q = c.cut-in-Tighten.new.self in
    let view = ap (λ (w : DescentView). w.parts) c.self.view_is in
    take-parts c.self.inside.ended p q _ _ c.args.self.now.parts c.args.step _ view c.requires.waits c.in-Tighten.is
    (step-tighten p q c.self.inside.undone.items c.push-in-Tighten.new.self.items c.in-Tighten.unknown
    c.span_of-whole-in-Tighten.result c.in-Tighten.span c.span_of-whole-in-Tighten.ensures
    c.push-in-Tighten.ensures.items c.cut-in-Tighten.ensures.spans c.cut-in-Tighten.ensures.decided)
