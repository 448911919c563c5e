use Rattle.std.proofs.Common.{◌≡◌, ◌∙◌, ◌∷◌, [], ap, arith}
use Rattle.std.specs.List.{flat_map, range_with_len}
use Rattle.ft_tree.specs.declared.item.Item.{Item}
use Rattle.ft_gen.specs.building.Items.{items_for, switch_type}
use Rattle.ft_gen.proofs.ItemLemmas.{items-more}
use Rattle.ft_gen.proofs.generating.items.Goals as goal

pub loop-count-init : goal.loop-count-init
loop-count-init c = c.in_ok-items.ensures ∙ ap (λ (item : Item). item ∷ []) c.in_ok-switch_type.ensures

pub loop-count-preserved : goal.loop-count-preserved
loop-count-preserved c =
    items-more c.loop-count.count _ _ _ c.loop-count.invariant c.in_ok-append.ensures c.in_ok-items-2.ensures

pub returns : goal.returns
returns c =
    let all : c.loop-count.count ≡ c.args.n = omega arith in
    c.loop-count.invariant ∙ ap (λ count. switch_type ∷ flat_map items_for (range_with_len 1 count)) all
