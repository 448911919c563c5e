use Rattle.ft_core.specs.laws.Places.{item-there}
use Rattle.std.proofs.Common.{refl}
use Rattle.ft_oblige.proofs.TriedLemmas.{full-first, full-more, full-end}
use Rattle.ft_oblige.proofs.trying.have_values.Goals as goal

pub loop-span-init : goal.loop-span-init
loop-span-init c = full-first c.args.spans.now

pub loop-span-preserved : goal.loop-span-preserved
loop-span-preserved c = full-more c.args.spans.now c.loop-span.span-index c.span-item.result c.loop-span.invariant
    (item-there c.args.spans.now c.args.spans.now c.loop-span.span-index c.span-item.result refl c.loop-span-test.true c.span-item.is)
    c.has_value.ensures

pub returns : goal.returns
returns c = full-end c.args.spans.now c.loop-span.span-index c.loop-span-test.false c.loop-span.invariant
