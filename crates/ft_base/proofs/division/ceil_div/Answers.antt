use Rattle.std.proofs.Common.{rules, w64, FitsSigned, arith, pos, ◌+ℤ◌, ◌<ℤ◌}
use Rattle.std.proofs.lemmas.Int.{to_z-of_z, ints}
use Rattle.ft_base.proofs.DivisionLemmas.{ceiling-whole, ceiling-next, next-fits}
use Rattle.ft_base.proofs.division.ceil_div.Goals as goal

pub returns-then-rem_euclid-eq0 : goal.returns-then-rem_euclid-eq0
returns-then-rem_euclid-eq0 c =
    let result_fits : FitsSigned w64 c.div_euclid-quotient.result = search rules in
    let a_fits = c.ranges.a in
    let k_fits = c.ranges.k in
    let quotient = simp to_z-of_z at c.div_euclid-quotient.ensures in
    let rest = simp to_z-of_z at c.rem_euclid.ensures.value in
    rw (to_z-of_z w64 _ result_fits) (ceiling-whole _ _ _ _ c.requires quotient rest (omega (arith, ints)))

pub returns-else-rem_euclid-eq0 : goal.returns-else-rem_euclid-eq0
returns-else-rem_euclid-eq0 c =
    let result_fits : FitsSigned w64 c.div_euclid-quotient.result = search rules in
    let a_fits = c.ranges.a in
    let k_fits = c.ranges.k in
    let quotient = simp to_z-of_z at c.div_euclid-quotient.ensures in
    let rest = simp to_z-of_z at c.rem_euclid.ensures.value in
    let some : pos 0 <ℤ c.rem_euclid.result = omega (arith, ints) in
    let less : c.rem_euclid.result <ℤ c.args.k = grind (arith, ints) in
    let next_fits : FitsSigned w64 (c.div_euclid-quotient.result +ℤ pos 1) = next-fits _ _ _ _ c.requires quotient rest some a_fits in
    rw (to_z-of_z w64 _ result_fits, to_z-of_z w64 _ next_fits) (ceiling-next _ _ _ _ c.requires quotient rest some less)
