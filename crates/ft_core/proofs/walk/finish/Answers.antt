use Rattle.std.proofs.Common.{◌∙◌, ap, refl, slice_index_or, slice_set, ℕ}
use Rattle.std.proofs.lemmas.Option.{slice_get-get_or}
use Rattle.ft_core.specs.declared.walk.Stage.TheVariants.{Done}
use Rattle.ft_core.proofs.WalkLemmas.{finish-more}
use Rattle.ft_core.proofs.walk.finish.Goals as goal

pub items-preserved : goal.items-preserved
items-preserved c =
    let list = c.args.items.now in
    let item = slice_index_or list c.items.item-index 0 in
    let here = slice_get-get_or list c.items.item-index 0 c.items-test.true in
    finish-more list c.items.item-index c.args.stages.now c.items.stages c.set.new.self c.args.order.now c.items.order c.push.new.self item
    c.items.invariant
    refl c.items-test.true c.requires.once here (c.requires.items item c.items.item-index here)
    (c.set.ensures ∙ ap (λ (n : ℕ). slice_set c.items.stages item (Done n)) c.len.ensures) c.in_ok-push.ensures.ok
