use Rattle.std.proofs.Common.{arith, refl, slice_index_or}
use Rattle.ft_core.proofs.CircleLemmas.{read-at, followed-more, all-followed, stays-inside}
use Rattle.ft_core.proofs.circle.Search.follow.Goals as goal

pub meet-requires : goal.meet-requires
meet-requires c =
    let r = read-at c.args.reads.now c.get-item.result.now c.reads.read-index c.as_slice-read-items.result.now c.get.result.now
    c.get.ensures c.as_slice-read-items.ensures c.reads-test.true in
    omega (
      arith,
      c.reads.invariant.search.flags,
      c.requires.bounded c.get-item.result.now
          (slice_index_or c.as_slice-read-items.result.now c.reads.read-index 0) r,
    )

pub reads-preserved : goal.reads-preserved
reads-preserved c =
    let list = c.as_slice-read-items.result.now in
    let q = slice_index_or list c.reads.read-index 0 in
    let r = read-at c.args.reads.now c.get-item.result.now c.reads.read-index list c.get.result.now c.get.ensures
    c.as_slice-read-items.ensures c.reads-test.true in
    followed-more c.args.reads.now c.args.start c.get-item.result.now c.args.at list c.reads.read-index c.args.self.now c.reads.self
    c.meet.new.self c.reads.invariant
    c.get-item.ensures q c.reads-test.true refl r (c.requires.bounded c.get-item.result.now q r) c.if-read-start.false c.in_ok-meet.ensures

pub returns-clause-place : goal.returns-clause-place
returns-clause-place c =
    stays-inside c.args.reads.now c.args.start c.as_slice-read-items.result.now c.reads.read-index c.args.at c.args.self.now c.reads.self
    c.reads.invariant c.requires.place

pub returns-clause-read : goal.returns-clause-read
returns-clause-read c = λ no.
    all-followed c.args.reads.now c.args.start c.get-item.result.now c.args.at c.as_slice-read-items.result.now c.get.result.now
    c.reads.read-index c.args.self.now c.reads.self c.reads.invariant
    c.get-item.ensures c.get.ensures c.as_slice-read-items.ensures (omega (arith, c.reads-test.false)) c.requires.read
