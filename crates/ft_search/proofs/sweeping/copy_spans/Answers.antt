use Rattle.std.proofs.Common.{◌≡◌, ◌∙◌, inl, inr, sym, ap, subst, ◌≤ℤ◌, ℤ, pos, length, arith}
use Rattle.std.proofs.lemmas.Bool.{cases_eq, cases_lt}
use Rattle.std.proofs.lemmas.List.{length-set}
use Rattle.std.proofs.lemmas.Option.{get_or_from_slice_get}
use Rattle.ft_linear.specs.meaning.Form.{span_at}
use Rattle.ft_search.proofs.CopyLemmas.{full-past, same-lists, set-get}
use Rattle.ft_search.proofs.sweeping.copy_spans.Goals as goal

pub loop-unknown-preserved : goal.loop-unknown-preserved
loop-unknown-preserved c =
    let v = c.loop-unknown.invariant in
    let e = c.cut.ensures in
    let i = c.loop-unknown.unknown in
    let from = c.args.from.now.spans in
    let here : span_at from i ≡ c.span_of.result = get_or_from_slice_get from i c.span_of.result (pos 0, pos 0) c.span_of.ensures.value in
    rw e.spans
    (record {
      long = length-set c.loop-unknown.to.spans i c.span_of.result ∙ v.long;
      same = set-get c.loop-unknown.to.spans from i c.span_of.result v.long c.span_of.ensures.value v.same;
      full = λ u below. elim (cases_eq u i) [
        | inl same ↦ subst (λ (s : ℤ × ℤ). s.0 ≤ℤ s.1) (sym here ∙ ap (span_at from) (sym same)) c.span_of.ensures.full
        | inr other ↦ v.full u (grind (arith, below, other))
      ];
      decided = e.decided ∙ v.decided;
    })

pub returns-clause-spans : goal.returns-clause-spans
returns-clause-spans c =
    let v = c.loop-unknown.invariant in
    let end = c.loop-unknown-test.false in
    let count = c.requires.unknowns in
    let long = v.long in
    same-lists c.loop-unknown.to.spans c.args.from.now.spans v.long (λ u below. v.same u (omega (arith, below, end, count, long)))

pub returns-clause-full : goal.returns-clause-full
returns-clause-full c u =
    let v = c.loop-unknown.invariant in
    let end = c.loop-unknown-test.false in
    let count = c.requires.unknowns in
    elim (cases_lt u (length c.args.from.now.spans)) [
      | inl below ↦ v.full u (omega (arith, below, end, count))
      | inr past ↦ full-past c.args.from.now.spans u past
    ]
