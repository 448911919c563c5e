use Rattle.ft_search.proofs.SizeLemmas.{nonempty-end, nonempty-next, points-end, points-next}
use Rattle.ft_search.proofs.budget.points.Goals as goal

pub loop-span-preserved : goal.loop-span-preserved
loop-span-preserved c = record {
  product = points-next c.args.spans.now c.loop-span.span-index c.span-item.result c.loop-span.count c.in-Some.more c.loop-span-test.true
      c.span-item.is c.in-Some.ensures.value c.loop-span.invariant.product;
  nonempty = nonempty-next c.args.spans.now c.loop-span.span-index c.span-item.result c.loop-span-test.true c.span-item.is
      c.times_values.ensures.full c.loop-span.invariant.nonempty;
  small = c.in-Some.ensures.small;
}

pub returns-clause-value : goal.returns-clause-value
returns-clause-value c =
    points-end c.args.spans.now c.loop-span.span-index c.loop-span.count c.loop-span-test.false c.loop-span.invariant.product

pub returns-clause-nonempty : goal.returns-clause-nonempty
returns-clause-nonempty c =
    nonempty-end c.args.spans.now c.loop-span.span-index c.loop-span-test.false c.loop-span.invariant.nonempty
