use Rattle.std.proofs.Common.{le_refl, ◌≡◌, ◌∙◌, sym, ap, subst, refl, ◌+◌, Some, List, drop, length, slice_get, arith}
use Rattle.ft_linear.specs.meaning.Part.{PartView}
use Rattle.ft_cert.specs.walk.Waiting.{first_of}
use Rattle.ft_search.specs.searching.Sweep.{IsOpen, after}
use Rattle.ft_search.proofs.NarrowLemmas.{committed-begins, next-after, next-more, next-tight, open-before}
use Rattle.ft_search.proofs.settling.take_all.Goals as goal

pub places-init : goal.places-init
places-init c =
    let r = c.args.room.now in
    let none : c.args.counts.tight + 0 ≡ c.args.counts.tight = omega arith in
    record {
      way = c.requires.way;
      some = c.requires.some;
      first = committed-begins c.args.formula.now (first_of r.descent.parts) r.judging.sweep.part r.judging.sweep.made.items c.requires.swept;
      ends = c.requires.swept.ends;
      judging = refl;
      budget = refl;
      splits = refl;
      tight = none;
      nodes = le_refl (length r.nodes.items);
      by_halved = c.requires.by_halved;
    }

pub take_one-counts-requires : goal.take_one-counts-requires
take_one-counts-requires c =
    let f = c.args.formula.now in
    let w = c.args.room.now.judging.sweep in
    let i = c.places.place in
    let p = first_of c.args.room.now.descent.parts in
    let q = first_of c.places.room.descent.parts in
    let s = c.get-single.result in
    let v = c.places.invariant in
    let got : slice_get w.made.items i ≡ Some s
    = (λ j. slice_get (sym v.judging j).sweep.made.items (sym c.id.ensures j)) ∙ c.get-single.ensures in
    let opened = open-before f p q (drop i w.made.items) v.first (subst (λ (r : PartView). IsOpen f r) (sym v.ends) c.requires.opened) in
    let test = c.places-test.true in
    let made = c.len-made.ensures in
    let tight = v.tight in
    let few = v.by_halved in
    let limit = c.requires.limit in
    let budget = v.budget in
    record {
      way = v.way;
      some = v.some;
      tight = next-tight f p q w.made.items i s got v.first c.sum_laws.ensures.single opened;
      by_halved = omega (arith, test, made, tight, few, budget);
      limit = omega (arith, test, made, tight, limit, budget);
    }

pub places-preserved : goal.places-preserved
places-preserved c =
    let f = c.args.formula.now in
    let w = c.args.room.now.judging.sweep in
    let i = c.places.place in
    let p = first_of c.args.room.now.descent.parts in
    let q = first_of c.places.room.descent.parts in
    let s = c.get-single.result in
    let v = c.places.invariant in
    let e = c.take_one-counts.ensures in
    let got : slice_get w.made.items i ≡ Some s
    = (λ j. slice_get (sym v.judging j).sweep.made.items (sym c.id.ensures j)) ∙ c.get-single.ensures in
    let next = ap first_of e.parts in
    let long = ap (λ (ps : List PartView). length ps) e.parts in
    let tight = v.tight in
    let more = e.tight in
    let halved = e.halved in
    let before = v.nodes in
    let grown = e.nodes in
    let few = v.by_halved in
    record {
      way = e.way;
      some = omega (arith, long);
      first = next-more f p q w.made.items i s got v.first (first_of c.take_one-counts.new.room.descent.parts) next;
      ends = ap (λ (r : PartView). after r (drop (i + 1) w.made.items)) next ∙ next-after f p q w.made.items i s got v.first w.part v.ends;
      judging = e.judging ∙ v.judging;
      budget = e.budget ∙ v.budget;
      splits = e.splits ∙ v.splits;
      tight = omega (arith, tight, more);
      nodes = omega (arith, before, grown);
      by_halved = omega (arith, few, halved);
    }
