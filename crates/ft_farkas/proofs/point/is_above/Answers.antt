use Rattle.std.proofs.Common.{rules, subst, ℕ, ◌↔◌, ◌<ℤ◌, ◌*ℤ◌, pos, IsTrue}
use Rattle.std.specs.Int.{w64, w128}
use Rattle.std.proofs.lemmas.Int.{to_z-of_z}
use Rattle.ft_farkas.proofs.BoundLemmas.{above-is}
use mir.Val.{SFits}
use Rattle.ft_farkas.proofs.point.is_above.Goals as goal

pub returns : goal.returns
returns c =
    let turned_fits : SFits w128 c.turned.result = search rules in
    let value_fits : SFits w128 c.args.value = search rules in
    let less = rw (to_z-of_z w128 c.turned.result turned_fits, to_z-of_z w128 c.args.value value_fits) at c.is_less.ensures in
    let factor_fits : SFits w64 c.args.factor = search rules in
    let bound_fits : SFits w128 c.args.bound.value = search rules in
    let above = rw (to_z-of_z w64 c.args.factor factor_fits, to_z-of_z w128 c.args.bound.value bound_fits) at c.turned.ensures.above in
    let below = rw (to_z-of_z w64 c.args.factor factor_fits, to_z-of_z w128 c.args.bound.value bound_fits) at c.turned.ensures.below in
    let size = rw (to_z-of_z w64 c.args.factor factor_fits) at c.unsigned_abs.ensures.value in
    above-is c.args.factor c.args.value c.args.bound.value c.turned.result c.args.bound.times c.is_less.result c.requires.some above below
    (subst (λ (k : ℕ). IsTrue c.is_less.result ↔ ((pos k *ℤ c.turned.result) <ℤ (pos c.args.bound.times *ℤ c.args.value))) size less)
