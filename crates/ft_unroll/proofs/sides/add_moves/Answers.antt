use Rattle.std.proofs.Common.{◌∙◌, ap, [], ◌∷◌, ◌++◌, map, length, arith}
use Rattle.std.specs.Prelude.{slice_get}
use Rattle.std.specs.List.{range_with_len}
use Rattle.ft_claims.specs.meaning.Names.{Frame}
use Rattle.ft_claims.specs.meaning.Parts.{move_of}
use Rattle.ft_unroll.proofs.StepLemmas.{place-more, place-end}
use Rattle.ft_unroll.proofs.sides.add_moves.Goals as goal

pub loop-place-preserved : goal.loop-place-preserved
loop-place-preserved c =
    place-more (λ m. move_of c.args.tables.now c.list_frame-frame.result m (slice_get c.args.tables.now.memories m)) c.loop-place.place
    c.args.parts.now c.loop-place.parts c.push.new.self c.loop-place.invariant
    (c.in_ok-push.ensures.ok ∙ ap (λ w. c.loop-place.parts ++ w ∷ []) c.in_ok-move_of.ensures)

pub returns : goal.returns
returns c =
    place-end (λ m. move_of c.args.tables.now c.list_frame-frame.result m (slice_get c.args.tables.now.memories m)) c.loop-place.place
    (length c.args.tables.now.memories) c.args.parts.now c.loop-place.parts
    (omega (arith, c.loop-place-test.false, c.len-place-end.ensures))
    (omega (arith, c.loop-place.auto.place-end, c.len-place-end.ensures)) c.loop-place.invariant
    ∙ ap (λ (f : Frame). c.args.parts.now ++ map (λ m. move_of c.args.tables.now f m (slice_get c.args.tables.now.memories m))
    (range_with_len 0 (length c.args.tables.now.memories))) c.list_frame-frame.ensures
