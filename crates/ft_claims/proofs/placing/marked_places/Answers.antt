use Rattle.std.proofs.Common.{arith, false, refl}
use Rattle.std.specs.Prelude.{slice_index_or}
use Rattle.ft_claims.proofs.SpanningLemmas.{places-more, places-are, places-end}
use Rattle.ft_claims.proofs.placing.marked_places.Goals as goal

pub loop-at-preserved : goal.loop-at-preserved
loop-at-preserved c = places-more c.args.marks.now c.loop-at.places c.add_place.new.places c.loop-at.at
    (slice_index_or c.args.marks.now c.loop-at.at false) c.loop-at-test.true refl c.loop-at.invariant c.in_ok-add_place.ensures

pub returns-clause-value : goal.returns-clause-value
returns-clause-value c = let past = c.loop-at-test.false in
    places-end c.args.marks.now c.loop-at.places c.loop-at.at (omega (arith, past)) c.loop-at.invariant

pub returns-clause-places : goal.returns-clause-places
returns-clause-places c = let past = c.loop-at-test.false in
    places-are c.args.marks.now c.loop-at.places
    (places-end c.args.marks.now c.loop-at.places c.loop-at.at (omega (arith, past)) c.loop-at.invariant)
