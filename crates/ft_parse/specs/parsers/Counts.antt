-- Counts that are kept beside the items that they count.
use Rattle.std.specs.Prelude.{ℕ, ◌≡◌, min, List}
use Rattle.std.specs.List.{count_by, sum_by}
use Rattle.ft_tree.specs.declared.item.Item.{Item}
use Rattle.ft_tree.specs.meaning.Limits as limits
use Rattle.ft_parse.specs.declared.counts.Counts.{Counts}
use Rattle.ft_parse.specs.declared.counts.Sort.{Sort}
use Rattle.ft_parse.specs.declared.counts.Sort.TheVariants as sort

-- a count that stands still at 2^64 - 1
abbrev pub up_to_most : ℕ → ℕ
up_to_most n = min n 18446744073709551615

-- how many items of a sort there are
abbrev pub count_of : limits.Sort → List Item → ℕ
count_of counted items = count_by (λ item. limits.is_same_sort counted (limits.sort_of item)) items

-- the counts are those of the items
pub record AreCounted (counts : Counts) (items : List Item) : Type 0 where
  pub constants : counts.constants ≡ up_to_most (count_of limits.constants items)
  pub types : counts.types ≡ up_to_most (count_of limits.types items)
  pub variables : counts.variables ≡ up_to_most (count_of limits.variables items)
  pub memories : counts.memories ≡ up_to_most (count_of limits.memories items)
  pub tables : counts.tables ≡ up_to_most (count_of limits.tables items)
  pub clauses : counts.clauses ≡ up_to_most (count_of limits.clauses items)
  pub blocks : counts.blocks ≡ up_to_most (count_of limits.blocks items)
  pub facts : counts.facts ≡ up_to_most (sum_by limits.facts_of items)

-- the reader's names of the sorts of items
abbrev pub sort_named : Sort → limits.Sort
sort_named sort.Constants = limits.constants
sort_named sort.Types = limits.types
sort_named sort.Variables = limits.variables
sort_named sort.Memories = limits.memories
sort_named sort.Tables = limits.tables
sort_named sort.Clauses = limits.clauses
sort_named sort.Blocks = limits.blocks
