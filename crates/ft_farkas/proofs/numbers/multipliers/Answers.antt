use Rattle.std.proofs.Common.{rules, w64}
use Rattle.std.proofs.lemmas.Int.{to_z-of_z}
use Rattle.ft_farkas.proofs.MultiplierLemmas.{cancels-of, some-of}
use mir.Val.{SFits}
use Rattle.ft_farkas.proofs.numbers.multipliers.Goals as goal

pub share-requires-clause-divisor : goal.share-requires-clause-divisor
share-requires-clause-divisor c =
    let fits : SFits w64 c.args.above = search rules in
    some-of c.args.above c.size.result c.size-2.result c.gcd-divisor.result c.requires.above (rw (to_z-of_z w64 c.args.above fits) at c.size.ensures) c.gcd-divisor.ensures.value

pub share-requires-2-clause-divisor : goal.share-requires-2-clause-divisor
share-requires-2-clause-divisor c =
    let fits : SFits w64 c.args.above = search rules in
    some-of c.args.above c.size.result c.size-2.result c.gcd-divisor.result c.requires.above (rw (to_z-of_z w64 c.args.above fits) at c.size.ensures) c.gcd-divisor.ensures.value

pub returns-clause-cancels : goal.returns-clause-cancels
returns-clause-cancels c =
    let above_fits : SFits w64 c.args.above = search rules in
    let below_fits : SFits w64 c.args.below = search rules in
    cancels-of c.args.above c.args.below c.size.result c.size-2.result c.gcd-divisor.result c.share.result c.share-2.result c.requires.above c.requires.below
    (rw (to_z-of_z w64 c.args.above above_fits) at c.size.ensures) (rw (to_z-of_z w64 c.args.below below_fits) at c.size-2.ensures)
    c.gcd-divisor.ensures.value c.gcd-divisor.ensures.scaled
    (rw (to_z-of_z w64 c.args.below below_fits) at c.share.ensures.value) (rw (to_z-of_z w64 c.args.above above_fits) at c.share-2.ensures.value)
