use Rattle.std.proofs.Common.{◌∙◌, ap, [], ◌∷◌, ◌++◌, map}
use Rattle.std.proofs.lemmas.List.{take_all}
use Rattle.ft_core.specs.declared.tables.Section.TheVariants as section
use Rattle.ft_claims.specs.declared.claim.Claim.TheVariants as claim
use Rattle.ft_claims.specs.meaning.Names.{Frame}
use Rattle.ft_claims.specs.meaning.Parts.{definition}
use Rattle.ft_oblige.specs.meaning.Lists.{defined_places}
use Rattle.ft_unroll.proofs.StepLemmas.{item-more}
use Rattle.ft_unroll.proofs.differing.denials.Goals as goal

pub loop-variable-preserved : goal.loop-variable-preserved
loop-variable-preserved c =
    item-more (λ x. claim.Not (definition c.args.tables.now section.Out c.list_frame-frame.result x)) 0 c.places-places.result.now
    c.loop-variable.variable-index [] c.loop-variable.claims c.push.new.self c.loop-variable-test.true c.loop-variable.invariant
    (c.in_ok-push.ensures.ok ∙ ap (λ w. c.loop-variable.claims ++ w ∷ [])
    (c.in_ok-other.ensures ∙ ap (λ w. claim.Not w) c.in_ok-same.ensures))

pub returns : goal.returns
returns c =
    c.loop-variable.invariant
    ∙ ap (λ xs. map (λ x. claim.Not (definition c.args.tables.now section.Out c.list_frame-frame.result x)) xs)
    (take_all c.loop-variable.variable-index c.places-places.result.now c.loop-variable-test.false ∙ c.places-places.ensures)
    ∙ ap (λ (f : Frame). map (λ x. claim.Not (definition c.args.tables.now section.Out f x))
    (defined_places c.args.tables.now section.Out)) c.list_frame-frame.ensures
