-- What the list of the cards is made by.
use Rattle.std.specs.Prelude.{ℕ, ◌+◌, Bool, List, map, if◌then◌else◌}
use Rattle.ft_tree.specs.declared.item.Item.{Item}
use Rattle.ft_names.specs.declared.card.Card.{Card}
use Rattle.ft_names.specs.declared.counts.Counts.{Counts}
use Rattle.ft_names.specs.meaning.Cards.{count_before, declares_block, declares_memory, declares_variable}

-- the cards beside names
abbrev pub cards_in : List (List ℕ × Card) → List Card
cards_in list = map (λ entry. entry.1) list

abbrev pub counts_before : List Item → ℕ → Counts
counts_before items k = record {
  variables = count_before declares_variable items k;
  memories = count_before declares_memory items k;
  blocks = count_before declares_block items k;
}

abbrev pub one_more : Bool → ℕ → ℕ
one_more there n = if there then n + 1 else n

abbrev pub counted : Counts → Item → Counts
counted counts item = record {
  variables = one_more (declares_variable item) counts.variables;
  memories = one_more (declares_memory item) counts.memories;
  blocks = one_more (declares_block item) counts.blocks;
}
