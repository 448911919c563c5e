use Rattle.std.proofs.Common.{◌∙◌, ap, sym, subst, refl, arith, length, take}
use Rattle.std.proofs.lemmas.List.{length-take}
use Rattle.ft_linear.specs.meaning.Form.{span_at}
use Rattle.ft_linear.specs.meaning.Formula.{IsOver}
use Rattle.ft_settle.specs.meaning.Settled.{settled}
use Rattle.ft_claims.specs.building.Marking.{AreOver, marked_places}
use Rattle.ft_claims.specs.meaning.Areas.{finished, with_spans}
use Rattle.ft_claims.specs.meaning.Formulas.{entries_of}
use Rattle.ft_claims.proofs.MarkedLemmas.{marks-are, marks-long, formula-same, spans-same, names-same, places-same, places-low, pairs-over}
use Rattle.ft_claims.proofs.OverLemmas.{finished-over}
use Rattle.ft_claims.proofs.obliging.oblige.Goals as goal

pub with_spans-requires : goal.with_spans-requires
with_spans-requires c =
    subst (AreOver (length c.args.spans.now)) (sym (c.as_slice-3.ensures ∙ c.in_ok-whole.ensures.pairs
    ∙ ap (λ n. entries_of n c.args.parts.now) c.in_ok-base.ensures)) (pairs-over c.args.spans.now c.args.parts.now c.requires.good)

pub spans_at-requires : goal.spans_at-requires
spans_at-requires c =
    let spans = c.args.spans.now in
    let parts = c.args.parts.now in
    let marks = c.in_ok-marks.marks in
    let are = marks-are spans parts c.requires.good c.in_ok-base.base (length spans) c.in_ok-whole.whole.formula c.in_ok-whole.whole.pairs
    marks c.in_ok-base.ensures refl c.in_ok-whole.ensures.formula c.in_ok-whole.ensures.pairs c.in_ok-marks.ensures in
    places-low spans parts c.requires.good c.as_slice-5.result.now c.as_slice-6.result.now marks are
    (c.as_slice-6.ensures ∙ c.in_ok-places.ensures.value ∙ ap marked_places c.as_slice-4.ensures)
    (c.as_slice-5.ensures ∙ c.in_ok-all.ensures ∙ ap (with_spans spans) (c.as_slice-3.ensures ∙ c.in_ok-whole.ensures.pairs
    ∙ ap (λ n. entries_of n parts) c.in_ok-base.ensures))

pub slice_bounds-marked_places-end : goal.slice_bounds-marked_places-end
slice_bounds-marked_places-end c =
    let spans = c.args.spans.now in
    let parts = c.args.parts.now in
    let marks = c.in_ok-marks.marks in
    let are = marks-are spans parts c.requires.good c.in_ok-base.base (length spans) c.in_ok-whole.whole.formula c.in_ok-whole.whole.pairs
    marks c.in_ok-base.ensures refl c.in_ok-whole.ensures.formula c.in_ok-whole.ensures.pairs c.in_ok-marks.ensures in
    let long = marks-long spans parts c.requires.good marks are in
    let lent = ap length c.as_slice-7.ensures in
    let least = length-take (length spans) c.as_slice-7.result.now in
    omega (arith, long, lent, least)

pub returns-clause-formula : goal.returns-clause-formula
returns-clause-formula c =
    let spans = c.args.spans.now in
    let parts = c.args.parts.now in
    let marks = c.in_ok-marks.marks in
    let are = marks-are spans parts c.requires.good c.in_ok-base.base (length spans) c.in_ok-whole.whole.formula c.in_ok-whole.whole.pairs
    marks c.in_ok-base.ensures refl c.in_ok-whole.ensures.formula c.in_ok-whole.ensures.pairs c.in_ok-marks.ensures in
    c.in_ok-formula.ensures.value ∙ ap settled (formula-same spans parts c.requires.good marks c.as_slice.result.now c.in_ok-numbers.numbers c.as_slice-2.result.now c.in_ok-base.base
    c.in_ok-whole.whole.formula are c.as_slice.ensures c.in_ok-numbers.ensures c.as_slice-2.ensures c.in_ok-base.ensures
    c.in_ok-whole.ensures.formula)

pub returns-clause-spans : goal.returns-clause-spans
returns-clause-spans c =
    let spans = c.args.spans.now in
    let parts = c.args.parts.now in
    let marks = c.in_ok-marks.marks in
    let are = marks-are spans parts c.requires.good c.in_ok-base.base (length spans) c.in_ok-whole.whole.formula c.in_ok-whole.whole.pairs
    marks c.in_ok-base.ensures refl c.in_ok-whole.ensures.formula c.in_ok-whole.ensures.pairs c.in_ok-marks.ensures in
    spans-same spans parts c.requires.good marks c.as_slice-4.result.now c.in_ok-all.all c.as_slice-5.result.now c.in_ok-whole.whole.pairs
    c.as_slice-3.result.now c.in_ok-places.places c.as_slice-6.result.now c.in_ok-base.base c.in_ok-spans_left.spans_left are
    c.as_slice-4.ensures c.in_ok-base.ensures c.in_ok-whole.ensures.pairs c.as_slice-3.ensures c.in_ok-all.ensures c.as_slice-5.ensures
    c.in_ok-places.ensures.value c.as_slice-6.ensures c.in_ok-spans_left.ensures

pub returns-clause-names : goal.returns-clause-names
returns-clause-names c =
    let spans = c.args.spans.now in
    let parts = c.args.parts.now in
    let marks = c.in_ok-marks.marks in
    let are = marks-are spans parts c.requires.good c.in_ok-base.base (length spans) c.in_ok-whole.whole.formula c.in_ok-whole.whole.pairs
    marks c.in_ok-base.ensures refl c.in_ok-whole.ensures.formula c.in_ok-whole.ensures.pairs c.in_ok-marks.ensures in
    c.in_ok-names.ensures.value ∙ ap (λ ms. marked_places (take (length spans) ms)) c.as_slice-7.ensures
    ∙ names-same spans parts c.requires.good marks are

pub returns-clause-over : goal.returns-clause-over
returns-clause-over c =
    let spans = c.args.spans.now in
    let parts = c.args.parts.now in
    let marks = c.in_ok-marks.marks in
    let are = marks-are spans parts c.requires.good c.in_ok-base.base (length spans) c.in_ok-whole.whole.formula c.in_ok-whole.whole.pairs
    marks c.in_ok-base.ensures refl c.in_ok-whole.ensures.formula c.in_ok-whole.ensures.pairs c.in_ok-marks.ensures in
    let formula = c.in_ok-formula.ensures.value ∙ ap settled (formula-same spans parts c.requires.good marks c.as_slice.result.now c.in_ok-numbers.numbers c.as_slice-2.result.now c.in_ok-base.base
    c.in_ok-whole.whole.formula are c.as_slice.ensures c.in_ok-numbers.ensures c.as_slice-2.ensures c.in_ok-base.ensures
    c.in_ok-whole.ensures.formula) in
    let left = spans-same spans parts c.requires.good marks c.as_slice-4.result.now c.in_ok-all.all c.as_slice-5.result.now c.in_ok-whole.whole.pairs
    c.as_slice-3.result.now c.in_ok-places.places c.as_slice-6.result.now c.in_ok-base.base c.in_ok-spans_left.spans_left are
    c.as_slice-4.ensures c.in_ok-base.ensures c.in_ok-whole.ensures.pairs c.as_slice-3.ensures c.in_ok-all.ensures c.as_slice-5.ensures
    c.in_ok-places.ensures.value c.as_slice-6.ensures c.in_ok-spans_left.ensures in
    subst (IsOver (length c.in_ok-spans_left.spans_left)) (sym formula)
    (subst (λ s. IsOver (length s) (settled (finished spans parts).formula)) (sym left) (finished-over spans parts c.requires.good))
