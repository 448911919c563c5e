use Rattle.std.proofs.Common.{arith, subst, None, pos, All}
use Rattle.std.proofs.lemmas.List.{take_all}
use Rattle.std.proofs.lemmas.List.Elements.{All-more}
use Rattle.ft_diff.specs.declared.diff.Diff.{Diff}
use Rattle.ft_diff.specs.meaning.Differences.{IsOver}
use Rattle.ft_tests.proofs.solutions.are_over.Goals as goal

pub loop-line-preserved : goal.loop-line-preserved
loop-line-preserved c =
    let d : Diff = record { x = None; y = None; c = pos 0 } in
    All-more (IsOver c.args.count) c.args.list.now c.loop-line.line-index d c.loop-line-test.true c.loop-line.invariant
    (c.is_over.ensures c.if-not-is_over.false)

pub returns : goal.returns
returns c = λ e. subst (All (IsOver c.args.count)) (take_all c.loop-line.line-index c.args.list.now (omega (arith, c.loop-line-test.false)))
    c.loop-line.invariant
