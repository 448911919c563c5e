use Rattle.std.proofs.Common.{◌<◌, ℕ, length, refl}
use Rattle.ft_farkas.specs.meaning.Rows.{row_of}
use Rattle.ft_farkas.specs.building.Quotients.{quotient_of}
use Rattle.ft_farkas.proofs.CombineLemmas.{some-divisor, made}
use Rattle.ft_farkas.proofs.mixing.combine.Goals as goal

pub divide-requires-clause-positive : goal.divide-requires-clause-positive
divide-requires-clause-positive c =
    some-divisor (length c.args.first.now) c.args.unknown c.args.times_first c.args.times_second c.divisor_of-divisor.result (row_of c.args.first.now) (row_of c.args.second.now) (row_of c.mix.new.sum) c.mix.ensures.value
    (λ k below. c.divisor_of-divisor.ensures.divides k below) c.requires.some

pub returns-clause-narrow : goal.returns-clause-narrow
returns-clause-narrow c so =
    let divides = λ (k : ℕ) (below : k < length c.args.first.now). c.divisor_of-divisor.ensures.divides k below in
    let some = some-divisor (length c.args.first.now) c.args.unknown c.args.times_first c.args.times_second c.divisor_of-divisor.result (row_of c.args.first.now) (row_of c.args.second.now) (row_of c.mix.new.sum) c.mix.ensures.value divides c.requires.some in
    made (length c.args.first.now) c.args.unknown c.args.times_first c.args.times_second c.divisor_of-divisor.result (row_of c.args.first.now) (row_of c.args.second.now) (row_of c.mix.new.sum) c.mix.ensures.value divides
    (row_of c.divide.new.quotients) some (λ k below. (c.divide.ensures.narrow so k below).1)
    (λ d all. c.divisor_of-divisor.ensures.greatest d all)
    c.requires.above c.requires.below c.requires.cancels

pub returns-clause-wide : goal.returns-clause-wide
returns-clause-wide c isnt =
    let divides = λ (k : ℕ) (below : k < length c.args.first.now). c.divisor_of-divisor.ensures.divides k below in
    let some = some-divisor (length c.args.first.now) c.args.unknown c.args.times_first c.args.times_second c.divisor_of-divisor.result (row_of c.args.first.now) (row_of c.args.second.now) (row_of c.mix.new.sum) c.mix.ensures.value divides c.requires.some in
    let w = c.divide.ensures.wide isnt in (
      (λ k. quotient_of (row_of c.mix.new.sum k) c.divisor_of-divisor.result),
      made (length c.args.first.now) c.args.unknown c.args.times_first c.args.times_second c.divisor_of-divisor.result (row_of c.args.first.now) (row_of c.args.second.now) (row_of c.mix.new.sum) c.mix.ensures.value divides
          (λ k. quotient_of (row_of c.mix.new.sum k) c.divisor_of-divisor.result) some (λ k below. refl)
          (λ d all. c.divisor_of-divisor.ensures.greatest d all)
          c.requires.above c.requires.below c.requires.cancels,
      (w.0, w.1, w.2),
    )
