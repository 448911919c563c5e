use Rattle.std.proofs.Common.{rules, refl, pos, ◌+ℤ◌, ◌*ℤ◌, arith}
use Rattle.std.specs.Int.{w64}
use Rattle.std.proofs.lemmas.Int.{ints, to_z-of_z}
use Rattle.ft_search.proofs.halving.is_half.Goals as goal
use mir.Val.{SFits}

pub returns : goal.returns
returns c =
    let a = c.width.ensures in
    let b = c.width-2.ensures in
    let f1 : SFits w64 c.width.result = search rules in
    let f2 : SFits w64 c.width-2.result = search rules in
    let w1 = to_z-of_z w64 c.width.result f1 in
    let w2 = to_z-of_z w64 c.width-2.result f2 in
    let f3 : SFits w64 (c.width.result +ℤ pos 1) = grind (arith, ints, a) in
    let f4 : SFits w64 (c.width-2.result +ℤ pos 1) = grind (arith, ints, b) in
    let f5 : SFits w64 (pos 2 *ℤ (c.width.result +ℤ pos 1)) = grind (arith, ints, a) in
    rw (
      w1,
      w2,
      to_z-of_z w64 (c.width.result +ℤ pos 1) f3,
      to_z-of_z w64 (c.width-2.result +ℤ pos 1) f4,
      to_z-of_z w64 (pos 2 *ℤ (c.width.result +ℤ pos 1)) f5,
      a.value,
      b.value,
    ) refl
