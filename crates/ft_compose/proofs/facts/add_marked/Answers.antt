use Rattle.std.proofs.Common.{arith, false, refl}
use Rattle.std.specs.Prelude.{slice_index_or}
use Rattle.std.proofs.lemmas.Option.{slice_get-get_or}
use Rattle.ft_core.specs.laws.Places.{item-there}
use Rattle.ft_compose.proofs.GrowLemmas.{marked-more, marked-end}
use Rattle.ft_compose.proofs.facts.add_marked.Goals as goal

pub loop-at-preserved : goal.loop-at-preserved
loop-at-preserved c =
    let part = c.index-others-at.result in
    let long = c.requires in
    let less = c.loop-at-test.true in
    marked-more c.args.claims.now c.loop-at.claims c.add_if.new.claims c.args.marks.now c.args.others.now c.loop-at.at
    (slice_index_or c.args.marks.now c.loop-at.at false) part
    (slice_get-get_or c.args.marks.now c.loop-at.at false (omega (arith, long, less)))
    (item-there c.args.others.now c.args.others.now c.loop-at.at part refl less c.index-others-at.is) c.loop-at.invariant
    c.in_ok-add_if.ensures

pub returns : goal.returns
returns c = let past = c.loop-at-test.false in
    marked-end c.args.claims.now c.loop-at.claims c.args.marks.now c.args.others.now c.loop-at.at (omega (arith, past)) c.requires
    c.loop-at.invariant
