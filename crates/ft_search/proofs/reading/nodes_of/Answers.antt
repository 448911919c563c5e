use Rattle.std.proofs.Common.{◌∙◌, sym, ap, ℕ, [], ◌∷◌, ◌++◌, slice_get}
use Rattle.ft_search.specs.searching.Kept.{node_of}
use Rattle.ft_search.proofs.ReadingLemmas.{map-more}
use Rattle.ft_search.proofs.reading.nodes_of.Goals as goal

pub loop-place-preserved : goal.loop-place-preserved
loop-place-preserved c =
    c.in_ok-push.ensures.ok ∙ (λ i. c.loop-place.invariant i ++ c.in_ok-node_of.ensures i ∷ [])
    ∙ sym (map-more (λ k. node_of c.args.formula.now k) c.args.kept.now.items c.loop-place.place c.get.result
    (ap (λ (n : ℕ). slice_get c.args.kept.now.items n) (sym c.id.ensures) ∙ c.get.ensures))
