use Rattle.std.proofs.Common.{rules, w64, FitsSigned}
use Rattle.std.proofs.lemmas.Int.{to_z-of_z}
use Rattle.ft_base.proofs.DivisionLemmas.{floor-at, floor-only}
use Rattle.ft_base.proofs.division.div_floor.Goals as goal

pub returns-clause-floor : goal.returns-clause-floor
returns-clause-floor c =
    let result_fits : FitsSigned w64 c.div_euclid.result = search rules in
    let a_fits = c.ranges.a in
    let k_fits = c.ranges.k in
    let value = simp to_z-of_z at c.div_euclid.ensures in
    rw (to_z-of_z w64 _ result_fits) (floor-at _ _ _ c.requires value)

pub returns-clause-only : goal.returns-clause-only
returns-clause-only c =
    let result_fits : FitsSigned w64 c.div_euclid.result = search rules in
    let a_fits = c.ranges.a in
    let k_fits = c.ranges.k in
    let value = simp to_z-of_z at c.div_euclid.ensures in
    λ q is. rw (to_z-of_z w64 _ result_fits) (floor-only _ _ _ _ c.requires is (floor-at _ _ _ c.requires value))
