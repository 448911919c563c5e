use Rattle.std.proofs.Common.{◌≡◌, ◌∙◌, sym, ap, subst, ℕ, ℤ, List, length, Some, arith}
use Rattle.std.proofs.lemmas.Option.{get_or_from_slice_get, slice_get_within}
use Rattle.ft_linear.specs.meaning.Form.{HasUnknowns, LinView}
use Rattle.ft_linear.specs.meaning.Halving.{single_span}
use Rattle.ft_linear.specs.meaning.Part.{PartView}
use Rattle.ft_linear.specs.meaning.Rules.{literal_form}
use Rattle.ft_search.specs.declared.halving.Single.{Single}
use Rattle.ft_search.specs.searching.Sweep.{IsSweepOf, IsSwept, tightened}
use Rattle.ft_search.proofs.HalvingLemmas.{same-form}
use Rattle.ft_search.proofs.NarrowLemmas.{swept-more}
use Rattle.ft_search.proofs.sweeping.tighten_one.Goals as goal

pub returns-then-is_worth-clause-swept : goal.returns-then-is_worth-clause-swept
returns-then-is_worth-clause-swept c =
    let f = c.args.formula.now in
    let p = c.args.part.now in
    let q = c.args.sweep.now.part in
    let t = c.args.literal in
    let u = c.args.unknown in
    let l = c.index-atoms-literal.result in
    let s : Single = record { atom = t.atom; value = t.value; unknown = u; span = c.in-Some.span } in
    let long = ap (λ (ls : List LinView). length ls) c.atoms.ensures in
    let there = c.requires.literal.atom in
    let form = same-form f c.atoms.result.now t.atom l c.atoms.ensures (omega (arith, long, there)) c.index-atoms-literal.is in
    let has_all = subst (λ (m : LinView). HasUnknowns (length p.spans) m.factors) (get_or_from_slice_get f.atoms t.atom l l form)
    (c.requires.over t.atom l (slice_get_within f.atoms t.atom l form)) in
    let spans = c.as_slice.ensures ∙ c.area.ensures in
    let wide = c.requires.room.spans in
    let inside = c.requires.unknown in
    let span : single_span q.spans u (literal_form t.value l) ≡ Some c.in-Some.span
    = ap (λ (ss : List (ℤ × ℤ)). single_span ss u (literal_form t.value l)) (sym spans) ∙ sym c.single_span.ensures ∙ c.in-Some.is in
    let is : IsSweepOf f p q s = record {
      l = l;
      form = form;
      at_first = c.requires.literal.at_first;
      few = c.requires.literal.few l form;
      proper = c.factors-factors.ensures.proper;
      has = subst (λ (n : ℕ). HasUnknowns n l.factors) (sym wide) has_all;
      unknown = omega (arith, wide, inside);
      span = span;
    } in
    let more = swept-more f p q c.args.sweep.now.made.items s c.requires.swept is in
    let part : c.cut.new.self ≡ tightened q s = λ i. record { spans = c.cut.ensures.spans i; decided = c.cut.ensures.decided i } in
    subst (λ (r : PartView). IsSwept f p c.push.new.self.items r) (sym part)
    (subst (λ (ss : List Single). IsSwept f p ss (tightened q s)) (sym c.push.ensures.items) more)
