use Rattle.std.proofs.Common.{arith}
use Rattle.ft_core.proofs.CircleLemmas.{no-way-back}
use Rattle.ft_core.proofs.circle.Search.find_end.Goals as goal

pub places-preserved : goal.places-preserved
places-preserved c = record {
  search = c.in_ok-follow.ensures.search;
  read = c.in_ok-follow.ensures.read c.if-branch.false;
  place = omega (arith, c.in_ok-follow.ensures.place);
}

pub unreachable-requires : goal.unreachable-requires
unreachable-requires c =
    no-way-back c.args.reads.now c.args.start c.places.self.met c.places.self.parents c.places.self.seen c.places.at
    c.places.invariant.search c.places.invariant.read
    (omega (arith, c.places-test.false, c.len.ensures)) c.requires.leads
