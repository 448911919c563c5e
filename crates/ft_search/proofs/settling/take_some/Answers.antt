use Rattle.std.proofs.Common.{le_refl, ◌≡◌, ◌∙◌, sym, ap, subst, refl, ◌+◌, Some, List, length, slice_get, arith}
use Rattle.ft_base.specs.Three.{is_no}
use Rattle.ft_linear.specs.meaning.Marks.{AreJudged}
use Rattle.ft_linear.specs.meaning.Part.{PartView, truth_of}
use Rattle.ft_cert.specs.walk.Waiting.{first_of}
use Rattle.ft_search.specs.declared.room.Judging.{Judging}
use Rattle.ft_pool.specs.meaning.Region.{Region}
use Rattle.ft_search.specs.declared.kept.KeptNode.{KeptNode}
use Rattle.ft_search.specs.searching.Sweep.{IsOpen}
use Rattle.ft_search.proofs.NarrowLemmas.{committed-begins, next-more, next-tight, open-by}
use Rattle.ft_search.proofs.settling.take_some.Goals as goal

pub places-init : goal.places-init
places-init c =
    let r = c.args.room.now in
    let same : c.args.counts.tight + 0 ≡ c.args.counts.tight = omega arith in
    record {
      way = c.requires.way;
      some = c.requires.some;
      first = committed-begins c.args.formula.now (first_of r.descent.parts) r.judging.sweep.part r.judging.sweep.made.items c.requires.swept;
      opened = c.requires.opened;
      truth = λ below. absurd (omega (arith, below));
      judged = λ below. absurd (omega (arith, below));
      sweep = refl;
      budget = refl;
      splits = refl;
      tight = same;
      nodes = le_refl (length r.nodes.items);
      by_halved = c.requires.by_halved;
    }

pub take_one-more-requires : goal.take_one-more-requires
take_one-more-requires c =
    let f = c.args.formula.now in
    let w = c.args.room.now.judging.sweep in
    let i = c.places.place in
    let p = first_of c.args.room.now.descent.parts in
    let q = first_of c.places.room.descent.parts in
    let s = c.get-single.result in
    let v = c.places.invariant in
    let got : slice_get w.made.items i ≡ Some s
    = (λ j. slice_get (sym v.sweep j).made.items (sym c.id.ensures j)) ∙ c.get-single.ensures in
    let test = c.places-test.true in
    let made = c.len-made.ensures in
    let tight = v.tight in
    let few = v.by_halved in
    let limit = c.requires.limit in
    let budget = v.budget in
    record {
      way = v.way;
      some = v.some;
      tight = next-tight f p q w.made.items i s got v.first c.sum_laws.ensures.single v.opened;
      by_halved = omega (arith, test, made, tight, few, budget);
      limit = omega (arith, test, made, tight, limit, budget);
    }

pub places-preserved : goal.places-preserved
places-preserved c =
    let f = c.args.formula.now in
    let w = c.args.room.now.judging.sweep in
    let i = c.places.place in
    let p = first_of c.args.room.now.descent.parts in
    let q = first_of c.places.room.descent.parts in
    let s = c.get-single.result in
    let v = c.places.invariant in
    let e = c.take_one-more.ensures in
    let j = c.judge_first.ensures in
    let got : slice_get w.made.items i ≡ Some s
    = (λ k. slice_get (sym v.sweep k).made.items (sym c.id.ensures k)) ∙ c.get-single.ensures in
    let parts = j.parts ∙ e.parts in
    let same = ap first_of j.parts in
    let long = ap (λ (ps : List PartView). length ps) parts in
    let tight = v.tight in
    let more = e.tight in
    let halved = e.halved in
    let before = v.nodes in
    let grown = e.nodes in
    let kept = ap (λ (g : Region KeptNode). length g.items) j.nodes in
    let few = v.by_halved in
    let open_now : IsOpen f (first_of c.take_one-more.new.room.descent.parts)
    = open-by f (first_of c.take_one-more.new.room.descent.parts)
    (λ no_truth. cc (sym c.if-is_no.false ∙ c.is_no.ensures ∙ ap is_no (j.truth ∙ no_truth))) in
    record {
      way = j.way;
      some = omega (arith, long);
      first = next-more f p q w.made.items i s got v.first (first_of c.judge_first.new.room.descent.parts) (ap first_of parts);
      opened = subst (λ (r : PartView). IsOpen f r) (sym same) open_now;
      truth = λ below. j.truth ∙ ap (truth_of f) (sym same);
      judged = λ below. subst (λ (r : PartView). AreJudged f r c.judge_first.new.room.judging.marks) (sym same) j.judged;
      sweep = j.sweep ∙ ap (λ (g : Judging). g.sweep) e.judging ∙ v.sweep;
      budget = j.budget ∙ e.budget ∙ v.budget;
      splits = j.splits ∙ e.splits ∙ v.splits;
      tight = omega (arith, tight, more);
      nodes = omega (arith, before, grown, kept);
      by_halved = omega (arith, few, halved);
    }
