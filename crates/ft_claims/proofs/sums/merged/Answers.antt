use Rattle.std.proofs.Common.{◌≡◌, ◌∙◌, ap, ◌++◌, arith, pos, drop}
use Rattle.ft_claims.proofs.MergeLemmas.{left-turn, right-turn, both-turn, ends-left, ends-right, rest-whole}
use Rattle.ft_claims.proofs.sums.merged.Goals.{then-loop-left-test+else-right-second, else-loop-left-test}
use Rattle.ft_claims.proofs.sums.merged.Goals as goal

pub loop-left-preserved-then-here-there : goal.loop-left-preserved-then-here-there
loop-left-preserved-then-here-there c =
    let a = c.loop-left-test.true in let b = c.if-right-second.true in let less = c.if-here-there.true in (
      left-turn c.args.first.now c.args.second.now c.loop-left.factors c.loop-left.left c.loop-left.right (0, pos 0) (omega (arith, a))
          (omega (arith, b)) c.loop-left.invariant.0
          (omega (arith, less)) c.push.new.self c.in_ok-push.ensures.ok,
      omega (arith, a),
      c.loop-left.invariant.2,
    )

pub loop-left-preserved-then-there-here : goal.loop-left-preserved-then-there-here
loop-left-preserved-then-there-here c =
    let a = c.loop-left-test.true in let b = c.if-right-second.true in let less = c.if-there-here.true in (
      right-turn c.args.first.now c.args.second.now c.loop-left.factors c.loop-left.left c.loop-left.right (0, pos 0) (omega (arith, a))
          (omega (arith, b)) c.loop-left.invariant.0
          (omega (arith, less)) c.push-then-there-here.new.self c.in_ok-push-2.ensures.ok,
      c.loop-left.invariant.1,
      omega (arith, b),
    )

pub loop-left-preserved : goal.loop-left-preserved
loop-left-preserved c =
    let a = c.loop-left-test.true in let b = c.if-right-second.true in let p = c.if-here-there.false in let q = c.if-there-here.false in (
      both-turn c.args.first.now c.args.second.now c.loop-left.factors c.loop-left.left c.loop-left.right (0, pos 0) (omega (arith, a))
          (omega (arith, b)) c.loop-left.invariant.0
          (omega (arith, p, q)) c.push_sum.new.factors c.in_ok-push_sum.ensures,
      omega (arith, a),
      omega (arith, b),
    )

pub returns : goal.returns
returns c =
    let m = c.loop-left.invariant.0 in
    let made : c.extend-2.new.self ≡ (c.loop-left.factors ++ drop c.loop-left.left c.args.first.now)
    ++ drop c.loop-left.right c.args.second.now =
    c.in_ok-extend-2.ensures.ok ∙ (λ i. (c.in_ok-extend.ensures.ok ∙ ap (λ fs. c.loop-left.factors ++ fs)
    (rest-whole c.loop-left.left c.args.first.now)) i ++ rest-whole c.loop-left.right c.args.second.now i) in
    made ∙ elim c.loop-left-test.branch [
      | then-loop-left-test+else-right-second w ↦ ends-right c.args.first.now c.args.second.now c.loop-left.factors c.loop-left.left
          c.loop-left.right m (let b = w.if-right-second.false in omega (arith, b))
      | else-loop-left-test w ↦ ends-left c.args.first.now c.args.second.now c.loop-left.factors c.loop-left.left c.loop-left.right m
          (let a = w.loop-left-test.false in omega (arith, a))
    ]
