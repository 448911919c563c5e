use Rattle.std.proofs.Common.{◌∙◌, ap, [], ◌∷◌, ◌++◌, map}
use Rattle.std.proofs.lemmas.List.{take_all}
use Rattle.ft_claims.specs.meaning.Names.{Frame}
use Rattle.ft_claims.specs.meaning.Parts.{definition}
use Rattle.ft_oblige.specs.meaning.Lists.{defined_places}
use Rattle.ft_unroll.proofs.StepLemmas.{item-more}
use Rattle.ft_unroll.proofs.sides.add_definitions.Goals as goal

pub loop-variable-preserved : goal.loop-variable-preserved
loop-variable-preserved c =
    item-more (definition c.args.tables.now c.args.section c.list_frame-frame.result) 0 c.places-places.result.now
    c.loop-variable.variable-index c.args.parts.now c.loop-variable.parts c.push.new.self c.loop-variable-test.true
    c.loop-variable.invariant (c.in_ok-push.ensures.ok ∙ ap (λ w. c.loop-variable.parts ++ w ∷ []) c.in_ok-claim.ensures)

pub returns : goal.returns
returns c =
    c.loop-variable.invariant
    ∙ ap (λ xs. c.args.parts.now ++ map (definition c.args.tables.now c.args.section c.list_frame-frame.result) xs)
    (take_all c.loop-variable.variable-index c.places-places.result.now c.loop-variable-test.false ∙ c.places-places.ensures)
    ∙ ap (λ (f : Frame). c.args.parts.now ++ map (definition c.args.tables.now c.args.section f)
    (defined_places c.args.tables.now c.args.section)) c.list_frame-frame.ensures
