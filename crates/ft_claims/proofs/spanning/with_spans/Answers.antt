use Rattle.std.proofs.Common.{◌+◌, ◌∙◌, ap, subst, sym, arith, length, Some}
use Rattle.std.proofs.lemmas.List.{length_push}
use Rattle.std.proofs.lemmas.Option.{slice_get-get_or}
use Rattle.ft_linear.specs.meaning.Form.{HasUnknowns}
use Rattle.ft_claims.specs.meaning.Areas.{quotient_span}
use Rattle.ft_claims.proofs.SpanningLemmas.{spans-turn, spans-end}
use Rattle.ft_claims.proofs.spanning.with_spans.Goals as goal

pub quotient_span-requires-clause-over : goal.quotient_span-requires-clause-over
quotient_span-requires-clause-over c =
    let at = slice_get-get_or c.args.pairs.now c.loop-pair.pair-index c.pair-item.result c.loop-pair-test.true ∙ ap Some (sym c.pair-item.is) in
    let long = ap length c.as_slice.ensures ∙ c.loop-pair.invariant.0 in
    subst (λ n. HasUnknowns n c.pair-item.result.0.factors) (sym long) (c.requires c.loop-pair.pair-index c.pair-item.result at).0

pub quotient_span-requires-clause-divisor : goal.quotient_span-requires-clause-divisor
quotient_span-requires-clause-divisor c =
    let at = slice_get-get_or c.args.pairs.now c.loop-pair.pair-index c.pair-item.result c.loop-pair-test.true ∙ ap Some (sym c.pair-item.is) in
    (c.requires c.loop-pair.pair-index c.pair-item.result at).1

pub loop-pair-preserved : goal.loop-pair-preserved
loop-pair-preserved c =
    let made = c.in_ok-push.ensures.ok in
    let grown = ap length made in
    let longer = length_push c.loop-pair.all c.in_ok-span.span in
    let before = c.loop-pair.invariant.0 in (
      omega (arith, grown, longer, before),
      spans-turn c.args.spans.now c.loop-pair.all c.push.new.self c.args.pairs.now c.loop-pair.pair-index c.pair-item.result
          c.in_ok-span.span c.loop-pair-test.true c.pair-item.is
          (c.in_ok-span.ensures ∙ ap (λ spans. quotient_span spans c.pair-item.result) c.as_slice.ensures) made c.loop-pair.invariant.1,
    )

pub returns : goal.returns
returns c = let past = c.loop-pair-test.false in
    spans-end c.args.spans.now c.loop-pair.all c.args.pairs.now c.loop-pair.pair-index (omega (arith, past)) c.loop-pair.invariant.1
