use Rattle.std.proofs.Common.{rules, ◌≡◌, ◌∙◌, sym, ap, subst, List, ℤ, take, arith}
use Rattle.std.proofs.Common.{FitsSigned, to_z-of_z, w64}
use Rattle.std.proofs.lemmas.List.{take_all}
use Rattle.ft_linear.specs.meaning.Form.{InArea, values_at}
use Rattle.ft_search.proofs.ReadingLemmas.{AreFull, full-more, least-inside, least-more, least_of}
use Rattle.ft_search.proofs.reading.lows.Goals as goal

pub loop-span-preserved : goal.loop-span-preserved
loop-span-preserved c =
    let fits : FitsSigned w64 c.lo.result = search rules in
    record {
      values = least-more c.args.spans.now c.loop-span.span-index c.span-item.result c.loop-span.values c.push.new.self _ (omega arith)
          c.span-item.is c.loop-span.invariant.values (c.in_ok-push.ensures.ok) (to_z-of_z fits ∙ c.lo.ensures.value);
      all = full-more c.args.spans.now c.loop-span.span-index c.span-item.result (omega arith) c.span-item.is c.loop-span.invariant.all
          c.lo.ensures.bounded.0;
    }

pub returns : goal.returns
returns c =
    let all : take c.loop-span.span-index c.args.spans.now ≡ c.args.spans.now =
    take_all c.loop-span.span-index c.args.spans.now (omega arith) in
    let values : c.loop-span.values ≡ least_of c.args.spans.now = c.loop-span.invariant.values ∙ ap least_of all in
    subst (λ (vs : List ℤ). InArea c.args.spans.now (values_at vs)) (sym values)
    (least-inside c.args.spans.now (subst (λ (ss : List (ℤ × ℤ)). AreFull ss) all c.loop-span.invariant.all))
