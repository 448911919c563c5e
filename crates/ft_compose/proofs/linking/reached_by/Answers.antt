use Rattle.std.proofs.Common.{◌∙◌, ap, false, length, refl, replicate}
use Rattle.ft_claims.specs.meaning.Areas.{with_marks}
use Rattle.ft_oblige.specs.meaning.Linked.{names_in}
use Rattle.ft_core.specs.laws.Places.{item-there}
use Rattle.ft_compose.proofs.MarkLemmas.{reach-next}
use Rattle.ft_compose.proofs.OthersLemmas.{good-at}
use Rattle.ft_compose.proofs.linking.reached_by.Goals as goal

pub loop-claim-preserved : goal.loop-claim-preserved
loop-claim-preserved c =
    reach-next (names_in (length c.args.spans.now)) (replicate (length c.args.spans.now) false) c.loop-claim.reached
    c.reach_all.new.reached c.args.own.now
    c.loop-claim.claim-index c.claim-item.result c.loop-claim-test.true c.claim-item.is c.loop-claim.invariant
    (c.reach_all.ensures ∙ ap (with_marks c.loop-claim.reached) (c.as_slice.ensures ∙ c.in_ok-names.ensures))

pub names_of-requires : goal.names_of-requires
names_of-requires c = record {
  good = good-at c.args.spans.now c.args.own.now c.loop-claim.claim-index c.claim-item.result c.requires.good
      (item-there c.args.own.now c.args.own.now c.loop-claim.claim-index c.claim-item.result refl c.loop-claim-test.true c.claim-item.is);
}
