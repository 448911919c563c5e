use Rattle.std.proofs.Common.{rules}
use Rattle.std.specs.Int.{w128}
use Rattle.std.proofs.lemmas.Int.{to_z-of_z}
use Rattle.ft_farkas.proofs.FractionLemmas.{if-floors, if-rests}
use mir.Val.{SFits}
use Rattle.ft_farkas.proofs.numbers.is_less.Goals as goal

pub returns-then-not-is_same : goal.returns-then-not-is_same
returns-then-not-is_same c =
    let one : SFits w128 c.floor-whole_first.result = search rules in
    let two : SFits w128 c.floor-whole_second.result = search rules in
    let a_fits : SFits w128 c.args.first = search rules in
    let c_fits : SFits w128 c.args.second = search rules in
    let q = rw (to_z-of_z w128 c.args.first a_fits) at c.floor-whole_first.ensures in
    let p = rw (to_z-of_z w128 c.args.second c_fits) at c.floor-whole_second.ensures in
    let other = rw (to_z-of_z w128 c.floor-whole_first.result one, to_z-of_z w128 c.floor-whole_second.result two) at c.is_same.ensures in
    let less = rw (to_z-of_z w128 c.floor-whole_first.result one, to_z-of_z w128 c.floor-whole_second.result two) at c.is_below.ensures in
    if-floors c.args.first c.args.second c.floor-whole_first.result c.floor-whole_second.result c.args.below_first c.args.below_second c.requires.positive_first c.requires.positive_second q p
    c.is_same.result c.is_below.result c.if-not-is_same.true other less

pub returns : goal.returns
returns c =
    let one : SFits w128 c.floor-whole_first.result = search rules in
    let two : SFits w128 c.floor-whole_second.result = search rules in
    let three : SFits w128 c.rest.result = search rules in
    let four : SFits w128 c.rest-2.result = search rules in
    let five : SFits w128 c.scaled.result = search rules in
    let six : SFits w128 c.scaled-2.result = search rules in
    let a_fits : SFits w128 c.args.first = search rules in
    let c_fits : SFits w128 c.args.second = search rules in
    let q = rw (to_z-of_z w128 c.args.first a_fits) at c.floor-whole_first.ensures in
    let p = rw (to_z-of_z w128 c.args.second c_fits) at c.floor-whole_second.ensures in
    let r = rw (to_z-of_z w128 c.args.first a_fits) at c.rest.ensures.value in
    let s = rw (to_z-of_z w128 c.args.second c_fits) at c.rest-2.ensures.value in
    let l = rw (to_z-of_z w128 c.rest.result three) at c.scaled.ensures in
    let g = rw (to_z-of_z w128 c.rest-2.result four) at c.scaled-2.ensures in
    let same = rw (to_z-of_z w128 c.floor-whole_first.result one, to_z-of_z w128 c.floor-whole_second.result two) at c.is_same.ensures in
    let less = rw (to_z-of_z w128 c.scaled.result five, to_z-of_z w128 c.scaled-2.result six) at c.is_below-2.ensures in
    if-rests c.args.first c.args.second c.floor-whole_first.result c.floor-whole_second.result c.rest.result c.rest-2.result c.scaled.result c.scaled-2.result c.args.below_first c.args.below_second c.requires.positive_first c.requires.positive_second q p r s l g
    c.is_same.result c.is_below-2.result c.if-not-is_same.false same less
