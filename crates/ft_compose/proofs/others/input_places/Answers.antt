use Rattle.std.proofs.Common.{◌≤◌, length, subst}
use Rattle.ft_core.specs.laws.Places.{item-there}
use Rattle.std.proofs.lemmas.Option.{slice_get_within}
use Rattle.ft_compose.proofs.GrowLemmas.{inputs-more, inputs-end}
use Rattle.ft_compose.proofs.others.input_places.Goals as goal

pub loop-place-preserved : goal.loop-place-preserved
loop-place-preserved c =
    let vars = c.args.tables.now.vars in
    let there = item-there vars c.as_slice-var-items.result.now c.loop-place.place c.var-item.result c.as_slice-var-items.ensures
    c.loop-place-test.true c.var-item.is in
    inputs-more vars c.loop-place.places c.add_input.new.places c.loop-place.place c.var-item.result there
    (slice_get_within vars c.loop-place.place c.var-item.result there) c.loop-place.invariant c.in_ok-add_input.ensures

pub returns : goal.returns
returns c =
    inputs-end c.args.tables.now c.loop-place.places c.loop-place.place
    (subst (λ vars. length vars ≤ c.loop-place.place) c.as_slice-var-items.ensures c.loop-place-test.false) c.loop-place.invariant
