use Rattle.std.proofs.Common.{◌≡◌, ◌∙◌, sym, subst, ℤ, pos, List, Some, slice_get, slice_set, arith}
use Rattle.ft_linear.specs.meaning.Form.{values_at}
use Rattle.ft_cert.specs.walk.Waiting.{first_of}
use Rattle.ft_search.proofs.PointLemmas.{only-value, raw-is, raw-small, spans-more}
use Rattle.ft_search.proofs.searching.go_to_point.Goals as goal

pub fix-requires-clause-small : goal.fix-requires-clause-small
fix-requires-clause-small c =
    raw-small (values_at c.args.point.now c.loop-unknown.unknown)
    (c.requires.small c.loop-unknown.unknown (pos 0) c.loop-unknown-test.true)

pub loop-unknown-preserved : goal.loop-unknown-preserved
loop-unknown-preserved c =
    let value = values_at c.args.point.now c.loop-unknown.unknown in
    let same = raw-is value (c.requires.small c.loop-unknown.unknown (pos 0) c.loop-unknown-test.true) in
    let unknowns = c.fix.ensures.unknowns in
    let before = c.loop-unknown.invariant.unknowns in
    let room = c.fix.ensures.room in
    let spare = c.loop-unknown.invariant.room in
    record {
      some = c.fix.ensures.some;
      unknowns = unknowns ∙ before;
      room = omega (arith, room, spare);
      fixed = λ u below. subst (λ (ss : List (ℤ × ℤ)). slice_get ss u ≡ Some (values_at c.args.point.now u, values_at c.args.point.now u))
          (sym (c.fix.ensures.spans ∙ (λ i. slice_set (first_of c.loop-unknown.descent.parts).spans c.loop-unknown.unknown (same i, same i))))
          (spans-more (λ w. (values_at c.args.point.now w, values_at c.args.point.now w)) (first_of c.loop-unknown.descent.parts).spans
          c.loop-unknown.unknown c.fix.ensures.within c.loop-unknown.invariant.fixed u below);
    }

pub returns-clause-point : goal.returns-clause-point
returns-clause-point c x area u within =
    let end = c.loop-unknown-test.false in
    only-value (values_at c.args.point.now u) (x u)
    (area u (values_at c.args.point.now u, values_at c.args.point.now u) (c.loop-unknown.invariant.fixed u (omega (arith, within, end))))
