use Rattle.std.proofs.Common.{◌≡◌, subst, suc, ◌+◌, length, arith}
use Rattle.std.proofs.lemmas.Option.{slice_get-get_or}
use Rattle.ft_scan.specs.steps.Told.{IsTold}
use Rattle.ft_scan.proofs.CanTakeLemmas.{can_take}
use Rattle.ft_scan.proofs.LeavesLemmas.{goes_on}
use Rattle.ft_scan.proofs.stepping.run_steps.Goals as goal

pub run_step-requires-clause-frame : goal.run_step-requires-clause-frame
run_step-requires-clause-frame c = (c.loop-step.invariant c.requires.told.0 c.requires.told.1 c.requires.told.2 c.requires.told.3).is_frame

pub run_step-requires-clause-can : goal.run_step-requires-clause-can
run_step-requires-clause-can c =
    (can_take c.laws.ensures) c.args.tables.now c.requires.proper c.args.side c.args.steps.now c.requires.plan c.requires.told.0
    c.requires.told.1 c.requires.told.2
    c.loop-step.step-index c.loop-step.frame (c.loop-step.invariant c.requires.told.0 c.requires.told.1 c.requires.told.2 c.requires.told.3)
    _ (slice_get-get_or c.args.steps.now c.loop-step.step-index _ c.loop-step-test.true)

pub loop-step-preserved : goal.loop-step-preserved
loop-step-preserved c = λ a n scan begun.
    let next : suc c.loop-step.step-index ≡ c.loop-step.step-index + 1 = omega arith in
    subst (λ k. IsTold c.args.tables.now c.args.side c.args.steps.now a n k c.run_step.new.frame) next
    ((goes_on c.laws.ensures) c.args.tables.now c.requires.proper c.args.side c.args.steps.now c.requires.plan a n scan
    c.loop-step.step-index c.loop-step.frame (c.loop-step.invariant a n scan begun)
    _ (slice_get-get_or c.args.steps.now c.loop-step.step-index _ c.loop-step-test.true) c.run_step.new.frame c.run_step.ensures)

pub returns : goal.returns
returns c = λ a n scan begun.
    let whole : c.loop-step.step-index ≡ length c.args.steps.now = omega (arith, c.loop-step.auto.step-index-end, c.loop-step-test.false) in
    subst (λ k. IsTold c.args.tables.now c.args.side c.args.steps.now a n k c.loop-step.frame) whole (c.loop-step.invariant a n scan begun)
