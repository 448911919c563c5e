use Rattle.std.proofs.Common.{arith}
use Rattle.ft_diff.specs.narrowing.Outcome.{highs}
use Rattle.ft_diff.proofs.NarrowingLemmas.{in-area, one-written, one-within}
use Rattle.ft_diff.proofs.solving.begin.Goals as goal

pub spans-preserved : goal.spans-preserved
spans-preserved c =
    let area = c.args.area.now in
    let y = c.index-area-at.result in (
      one-written c.spans.spans c.put.new.spans area c.spans.at y (omega (arith, c.spans-test.true, c.spans.auto.spans, c.requires.spans))
          c.spans-test.true c.put.ensures.set c.index-area-at.is c.spans.invariant.0,
      one-within area c.spans.at y c.spans-test.true c.index-area-at.is c.put.ensures.bounded.0 c.spans.invariant.1,
    )

pub returns-clause-high : goal.returns-clause-high
returns-clause-high c = in-area c.args.area.now (highs c.args.area.now)
    (λ u within. c.spans.invariant.1 u (grind (arith, within, c.spans-test.false)))
