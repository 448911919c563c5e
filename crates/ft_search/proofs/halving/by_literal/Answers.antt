use Rattle.std.proofs.Common.{rules, ◌≡◌, ◌∙◌, sym, ap, subst, ℤ, true, List, length, arith}
use Rattle.std.specs.Prelude.{IfNone, IfSome}
use Rattle.ft_linear.specs.meaning.Form.{Factor, HasUnknowns, LinView}
use Rattle.ft_linear.specs.meaning.Part.{forced}
use Rattle.ft_search.specs.searching.Single.{IsByForm, IsSingle, NoneBy, NoneByForm}
use Rattle.ft_search.proofs.HalvingLemmas.{none-of, none-weaker, same-form, single-of, some-weaker}
use Rattle.ft_search.proofs.halving.by_literal.Goals as goal

pub returns-then-factors-gt3-clause-none : goal.returns-then-factors-gt3-clause-none
returns-then-factors-gt3-clause-none c u h =
    let long = ap (λ (ls : List LinView). length ls) c.atoms.ensures in
    let form = same-form c.args.formula.now c.atoms.result.now c.args.atom c.index-atoms-atom.result c.atoms.ensures (omega (arith, long))
    c.index-atoms-atom.is in
    let same : h.l ≡ c.index-atoms-atom.result = cc (sym h.form ∙ form) in
    let few = h.few in
    let count = ap (λ (l : LinView). length l.factors) same in
    let items = ap (λ (fs : List Factor). length fs) c.factors.ensures.value in
    absurd (omega (arith, few, count, items))

pub returns-clause-some : goal.returns-clause-some
returns-clause-some c =
    let f = c.args.formula.now in
    let p = c.args.part.now in
    let l = c.index-atoms-atom.result in
    let long = ap (λ (ls : List LinView). length ls) c.atoms.ensures in
    let form = same-form f c.atoms.result.now c.args.atom l c.atoms.ensures (omega (arith, long)) c.index-atoms-atom.is in
    let items = ap (λ (fs : List Factor). length fs) c.factors.ensures.value in
    let has : HasUnknowns (length p.spans) l.factors = search rules in
    let so : forced f p c.args.atom c.args.value ≡ true = sym c.is_forced.ensures ∙ c.if-not-is_forced.false in
    let spans = c.as_slice.ensures ∙ c.area.ensures in
    let found : IfSome c.by_form.result (IsByForm p.spans l c.args.atom c.args.value)
    = subst (λ (ss : List (ℤ × ℤ)). IfSome c.by_form.result (IsByForm ss l c.args.atom c.args.value)) spans c.by_form.ensures.some in
    some-weaker (IsByForm p.spans l c.args.atom c.args.value) (IsSingle f p) c.by_form.result found
    (single-of c.sum_laws.ensures.single f p c.args.atom c.args.value l form c.factors.ensures.proper has (omega (arith, items)) so)

pub returns-clause-none : goal.returns-clause-none
returns-clause-none c =
    let f = c.args.formula.now in
    let p = c.args.part.now in
    let l = c.index-atoms-atom.result in
    let long = ap (λ (ls : List LinView). length ls) c.atoms.ensures in
    let form = same-form f c.atoms.result.now c.args.atom l c.atoms.ensures (omega (arith, long)) c.index-atoms-atom.is in
    let items = ap (λ (fs : List Factor). length fs) c.factors.ensures.value in
    let has : HasUnknowns (length p.spans) l.factors = search rules in
    let so : forced f p c.args.atom c.args.value ≡ true = sym c.is_forced.ensures ∙ c.if-not-is_forced.false in
    let spans = c.as_slice.ensures ∙ c.area.ensures in
    let found : IfNone c.by_form.result (NoneByForm p.spans l c.args.value)
    = subst (λ (ss : List (ℤ × ℤ)). IfNone c.by_form.result (NoneByForm ss l c.args.value)) spans c.by_form.ensures.none in
    none-weaker (NoneByForm p.spans l c.args.value) (NoneBy f p c.args.atom c.args.value) c.by_form.result found
    (none-of c.sum_laws.ensures.single f p c.args.atom c.args.value l form c.factors.ensures.proper has (omega (arith, items)) so)
