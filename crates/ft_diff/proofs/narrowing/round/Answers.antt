use Rattle.std.proofs.Common.{arith, ◌∙◌, sym, subst, None, pos, ◌+◌, take, All}
use Rattle.ft_diff.specs.declared.diff.Diff.{Diff}
use Rattle.ft_diff.specs.declared.narrowing.Step.{Step}
use Rattle.ft_diff.specs.meaning.Differences.{Meets}
use Rattle.ft_diff.specs.narrowing.Outcome.{HasOutcome}
use Rattle.ft_diff.proofs.NarrowingLemmas.{one-more, all-done}
use Rattle.ft_diff.proofs.narrowing.round.Goals as goal

pub lines-preserved : goal.lines-preserved
lines-preserved c =
    let d : Diff = record { x = None; y = None; c = pos 0 } in (
      subst (λ (s : Step). HasOutcome (λ x. All (Meets x) (take (c.lines.at + 1) c.args.list.now)) c.args.spans.now c.narrow-one.new.spans
          s) (sym c.combined-step.ensures)
          (one-more c.args.list.now c.lines.at d c.args.spans.now c.lines.spans c.narrow-one.new.spans c.lines.step c.narrow-one.result
          c.lines-test.true c.lines.invariant.2 c.lines.invariant.0 c.narrow-one.ensures.outcome),
      c.narrow-one.ensures.high,
      sym c.is_barred.ensures ∙ c.if-is_barred.false,
    )

pub returns-clause-outcome : goal.returns-clause-outcome
returns-clause-outcome c = all-done c.args.list.now c.lines.at c.args.spans.now c.lines.spans c.lines.step
    (grind (arith, c.lines-test.false)) c.lines.invariant.0
