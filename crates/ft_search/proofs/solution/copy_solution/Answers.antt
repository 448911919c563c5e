use Rattle.std.proofs.Common.{rules, ◌≡◌, ◌∙◌, FitsSigned, w64, to_z-of_z, arith}
use Rattle.std.proofs.lemmas.List.{length-set}
use Rattle.ft_linear.specs.meaning.Form.{IsSmall, values_at}
use Rattle.ft_search.proofs.PointLemmas.{all-small, moved-area, values-more}
use Rattle.ft_search.proofs.solution.copy_solution.Goals as goal

pub loop-unknown-preserved : goal.loop-unknown-preserved
loop-unknown-preserved c =
    let fits : FitsSigned w64 c.solved.result = search rules in
    let test = c.loop-unknown-test.true in
    let long = c.loop-unknown.invariant.long in
    let more = values-more (λ u z. z ≡ values_at c.args.numbers.now u) c.loop-unknown.point c.loop-unknown.unknown c.solved.result
    (omega (arith, test, long)) c.loop-unknown.invariant.same c.solved.ensures.value in
    let small = values-more (λ u z. IsSmall z) c.loop-unknown.point c.loop-unknown.unknown c.solved.result (omega (arith, test, long))
    c.loop-unknown.invariant.small c.solved.ensures.small in
    rw (to_z-of_z fits)
    (record { long = length-set c.loop-unknown.point c.loop-unknown.unknown c.solved.result ∙ long; same = more; small = small })

pub returns-clause-inside : goal.returns-clause-inside
returns-clause-inside c =
    let end = c.loop-unknown-test.false in
    moved-area c.args.spans.now (values_at c.loop-unknown.point) (values_at c.args.numbers.now)
    (λ u within. c.loop-unknown.invariant.same u (omega (arith, within, end))) c.requires.inside

pub returns-clause-small : goal.returns-clause-small
returns-clause-small c =
    let end = c.loop-unknown-test.false in
    let long = c.loop-unknown.invariant.long in
    all-small c.loop-unknown.point c.loop-unknown.unknown (omega (arith, end, long)) c.loop-unknown.invariant.small
