use Rattle.std.proofs.Common.{refl}
use Rattle.ft_core.specs.laws.Places.{item-there}
use Rattle.ft_compose.proofs.OthersLemmas.{good-at}
use Rattle.ft_compose.proofs.part.parts_of.Goals as goal

pub part_of-requires : goal.part_of-requires
part_of-requires c = record {
  good = good-at c.args.spans.now c.args.claims.now c.loop-claim.claim-index c.claim-item.result c.requires.good
      (item-there c.args.claims.now c.args.claims.now c.loop-claim.claim-index c.claim-item.result refl c.loop-claim-test.true
      c.claim-item.is);
}
