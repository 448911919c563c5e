use Rattle.std.proofs.Common.{◌∙◌, sym, subst, ℤ, List, length}
use Rattle.std.proofs.lemmas.List.{with_items_is}
use Rattle.ft_diff.specs.meaning.Differences.{IsSolution, IsUnder}
use Rattle.ft_diff.specs.narrowing.Outcome.{highs}
use Rattle.ft_diff.proofs.NarrowingLemmas.{by-values}
use Rattle.ft_diff.proofs.solving.differences.Goals as goal

pub returns-clause-solved : goal.returns-clause-solved
returns-clause-solved c =
    let kept = with_items_is c.room.inside.spans c.solve_within.new.spans (c.solve_within.auto.spans ∙ c.deref_mut.ensures.len) in
    λ e. by-values (IsSolution c.args.list.now c.args.area.now.spans) c.solve_within.new.spans _ kept
    (subst (λ (spans : List (ℤ × ℤ)). IsSolution c.args.list.now spans (highs c.solve_within.new.spans)) c.as_slice.ensures
    (c.solve_within.ensures.solved e))

pub returns-clause-greatest : goal.returns-clause-greatest
returns-clause-greatest c =
    let kept = with_items_is c.room.inside.spans c.solve_within.new.spans (c.solve_within.auto.spans ∙ c.deref_mut.ensures.len) in
    λ e x so. by-values (IsUnder (length c.args.area.now.spans) x) c.solve_within.new.spans _ kept
    (subst (λ (spans : List (ℤ × ℤ)). IsSolution c.args.list.now spans x → IsUnder (length spans) x (highs c.solve_within.new.spans))
    c.as_slice.ensures (c.solve_within.ensures.greatest e x) so)

pub returns-clause-none : goal.returns-clause-none
returns-clause-none c = λ e x so. c.solve_within.ensures.none e x (subst (λ (spans : List (ℤ × ℤ)). IsSolution c.args.list.now spans x)
    (sym c.as_slice.ensures) so)
