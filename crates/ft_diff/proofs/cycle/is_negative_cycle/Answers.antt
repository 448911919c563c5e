use Rattle.std.proofs.Common.{rules, arith, ◌≡◌, ◌+ℤ◌}
use Rattle.std.specs.Int.{w128}
use Rattle.std.proofs.lemmas.Int.{ints, to_z-of_z}
use Rattle.ft_diff.proofs.CycleLemmas.{further, no-way}
use mir.Val.{SFits, to_z}
use Rattle.ft_diff.proofs.cycle.is_negative_cycle.Goals as goal

pub loop-turn-preserved : goal.loop-turn-preserved
loop-turn-preserved c =
    let f : SFits w128 c.plus-total.result = search rules in
    let sum : c.plus-total.result ≡ to_z w128 c.loop-turn.total-bits +ℤ c.in-Some.line.c =
    search (arith, ints, to_z-of_z, c.plus-total.ensures.sum, c.loop-turn.total-is) in
    rw (to_z-of_z w128 c.plus-total.result f) (
      further c.args.list.now c.args.start c.loop-turn.unknown c.in-Some-y.next (to_z w128 c.loop-turn.total-bits) c.plus-total.result
          c.in-Some.line c.loop-turn.invariant.0 c.in-Some.ensures.0 c.in-Some.ensures.1 c.in-Some-y.is sum,
      c.plus-total.ensures.small,
    )

pub returns-then-unknown-start : goal.returns-then-unknown-start
returns-then-unknown-start c =
    let f : SFits w128 c.plus-total.result = search rules in
    let sum : c.plus-total.result ≡ to_z w128 c.loop-turn.total-bits +ℤ c.in-Some.line.c =
    search (arith, ints, to_z-of_z, c.plus-total.ensures.sum, c.loop-turn.total-is) in
    rw (to_z-of_z w128 c.plus-total.result f)
    (λ less. no-way c.args.list.now c.args.start c.in-Some-y.next c.plus-total.result
    (further c.args.list.now c.args.start c.loop-turn.unknown c.in-Some-y.next (to_z w128 c.loop-turn.total-bits) c.plus-total.result
    c.in-Some.line c.loop-turn.invariant.0 c.in-Some.ensures.0 c.in-Some.ensures.1 c.in-Some-y.is sum)
    c.if-unknown-start.true (grind (arith, ints)))
