-- Whether there is room for one item or fact more.
use Rattle.std.specs.Prelude.{ℕ, ◌+◌, Bool, List, nat_le}
use Rattle.std.specs.List.{count_by, sum_by}
use Rattle.ft_tree.specs.declared.item.Item.{Item}
use Rattle.ft_tree.specs.meaning.Limits.{Sort, facts_of, is_same_sort, limit_of, sort_of}

-- whether there is no room for an item more of a sort
abbrev pub is_full : Sort → List Item → Bool
is_full sort items = nat_le (limit_of sort) (count_by (λ item. is_same_sort sort (sort_of item)) items)

-- whether there is no room for a fact more, after those of the items and so many of this block
abbrev pub no_more_facts : List Item → ℕ → Bool
no_more_facts items facts = nat_le 300 (sum_by facts_of items + facts)
