use Rattle.std.proofs.Common.{slice_index_or}
use Rattle.std.proofs.lemmas.Option.{slice_get-get_or}
use Rattle.ft_core.proofs.WalkLemmas.{least-more}
use Rattle.ft_core.proofs.walk.least_of.Goals as goal

pub items-preserved : goal.items-preserved
items-preserved c =
    let list = c.args.items.now in
    least-more c.args.least c.items.result c.lesser-result.result list c.items.item-index (slice_index_or list c.items.item-index 0)
    c.items.invariant
    (slice_get-get_or list c.items.item-index 0 c.items-test.true) c.lesser-result.ensures.from c.lesser-result.ensures.below
