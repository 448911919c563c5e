use Rattle.std.proofs.Common.{rules, ◌≤◌, ◌+◌, refl, arith}
use Rattle.std.specs.Int.{w128}
use Rattle.std.proofs.lemmas.Int.{to_z-of_z}
use Rattle.ft_farkas.specs.meaning.Rows.{row_of}
use Rattle.ft_farkas.specs.building.Quotients.{quotient_of}
use Rattle.ft_farkas.proofs.GivingLemmas.{extended, extended-small, extended-some}
use mir.Val.{SFits}
use Rattle.ft_farkas.proofs.point.give.Goals as goal

pub divide-requires-clause-small : goal.divide-requires-clause-small
divide-requires-clause-small c =
    let fits : SFits w128 c.args.bound.value = search rules in
    let last = rw (to_z-of_z w128 c.args.bound.value fits) at c.extend.ensures.last in
    extended-small c.args.unknown c.args.bound.times c.args.bound.value (row_of c.args.point.now) (row_of c.extend.new.numbers) c.divisor_of-divisor.result c.extend.ensures.scaled last c.divisor_of-divisor.ensures.divides
    c.requires.times c.requires.value c.requires.near

pub divide-requires-clause-positive : goal.divide-requires-clause-positive
divide-requires-clause-positive c =
    let fits : SFits w128 c.args.bound.value = search rules in
    let last = rw (to_z-of_z w128 c.args.bound.value fits) at c.extend.ensures.last in
    extended-some c.args.unknown c.args.bound.times c.args.bound.value (row_of c.args.point.now) (row_of c.extend.new.numbers) c.divisor_of-divisor.result c.extend.ensures.scaled last c.divisor_of-divisor.ensures.divides
    c.requires.some c.requires.denominator

pub returns-clause-given : goal.returns-clause-given
returns-clause-given c so =
    let fits : SFits w128 c.args.bound.value = search rules in
    let last = rw (to_z-of_z w128 c.args.bound.value fits) at c.extend.ensures.last in
    let some = extended-some c.args.unknown c.args.bound.times c.args.bound.value (row_of c.args.point.now) (row_of c.extend.new.numbers) c.divisor_of-divisor.result c.extend.ensures.scaled last c.divisor_of-divisor.ensures.divides
    c.requires.some c.requires.denominator in
    extended c.args.unknown c.args.bound.times c.args.bound.value (row_of c.args.point.now) (row_of c.extend.new.numbers) c.divisor_of-divisor.result c.extend.ensures.scaled last c.divisor_of-divisor.ensures.divides
    (row_of c.divide.new.quotients) some (λ k below. (c.divide.ensures.narrow so k below).1) c.divisor_of-divisor.ensures.greatest

pub returns-clause-far : goal.returns-clause-far
returns-clause-far c isnt =
    let fits : SFits w128 c.args.bound.value = search rules in
    let last = rw (to_z-of_z w128 c.args.bound.value fits) at c.extend.ensures.last in
    let some = extended-some c.args.unknown c.args.bound.times c.args.bound.value (row_of c.args.point.now) (row_of c.extend.new.numbers) c.divisor_of-divisor.result c.extend.ensures.scaled last c.divisor_of-divisor.ensures.divides
    c.requires.some c.requires.denominator in
    let w = c.divide.ensures.wide isnt in
    let low : w.0 ≤ c.args.unknown + 1 = let h = w.1 in omega (arith, h) in (
      (λ k. quotient_of (row_of c.extend.new.numbers k) c.divisor_of-divisor.result),
      extended c.args.unknown c.args.bound.times c.args.bound.value (row_of c.args.point.now) (row_of c.extend.new.numbers) c.divisor_of-divisor.result c.extend.ensures.scaled last c.divisor_of-divisor.ensures.divides
          (λ k. quotient_of (row_of c.extend.new.numbers k) c.divisor_of-divisor.result) some (λ k below. refl) c.divisor_of-divisor.ensures.greatest,
      (w.0, low, w.2),
    )
