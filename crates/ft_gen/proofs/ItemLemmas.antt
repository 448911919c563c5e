-- The items of one number more.
use Rattle.std.proofs.Common.{◌≡◌, ◌∙◌, sym, ap, ℕ, zero, suc, ◌+◌, List, ◌∷◌, ◌++◌, arith}
use Rattle.std.specs.List.{flat_map, range_with_len}
use Rattle.std.proofs.lemmas.List.{append-nil, append_assoc}
use Rattle.ft_tree.specs.declared.item.Item.{Item}
use Rattle.ft_gen.specs.building.Items.{items_for, switch_type}

module _ {A : Type 0} (part : ℕ → List A) where
  flat-more : (from count j : ℕ) → from + count ≡ j
      → flat_map part (range_with_len from (suc count)) ≡ flat_map part (range_with_len from count) ++ part j
  flat-more from zero j is =
      let same : from ≡ j = omega arith in
      append-nil (part from) ∙ ap part same
  flat-more from (suc count) j is =
      ap (λ more. part from ++ more) (flat-more (from + 1) count j (omega arith))
      ∙ sym (append_assoc (part from) (flat_map part (range_with_len (from + 1) count)) (part j))

pub items-more : (count : ℕ) (before after more : List Item) → before ≡ switch_type ∷ flat_map items_for (range_with_len 1 count)
    → after ≡ before ++ more → more ≡ items_for (count + 1) → after ≡ switch_type ∷ flat_map items_for (range_with_len 1 (count + 1))
items-more count before after more was added own =
    let counted : suc count ≡ count + 1 = omega arith in
    added ∙ ap (λ items. items ++ more) was
    ∙ ap (λ items. (switch_type ∷ flat_map items_for (range_with_len 1 count)) ++ items) own
    ∙ ap (λ items. switch_type ∷ items) (sym (flat-more items_for 1 count (count + 1) (omega arith)))
    ∙ ap (λ count. switch_type ∷ flat_map items_for (range_with_len 1 count)) counted
