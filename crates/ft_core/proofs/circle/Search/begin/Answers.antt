use Rattle.std.proofs.Common.{◌∙◌, ap, ℕ, Bool, true, false, List, slice_set, replicate}
use Rattle.ft_core.proofs.CircleLemmas.{begun}
use Rattle.ft_core.proofs.circle.Search.begin.Goals as goal

pub returns : goal.returns
returns c =
    let none = c.from_vec-seen.ensures ∙ c.in_ok-from_elem.ensures.items_if_clones_equal (λ y is. is)
    ∙ ap (λ (n : ℕ). replicate n false) c.len.ensures in
    begun c.args.reads.now c.args.start c.in_ok-copy_of.field-0 c.in_ok-copy_of-2.field-0 c.set.new.self c.requires c.in_ok-copy_of.ensures
    c.in_ok-copy_of-2.ensures
    (c.set.ensures ∙ ap (λ (l : List Bool). slice_set l c.args.start true) none)
