-- The variables or the memories among items.
use Rattle.std.specs.Prelude.{Bool}
use Rattle.ft_tree.specs.declared.item.Item.{Item}
use Rattle.ft_names.specs.meaning.Cards.{declares_memory, declares_variable}
use Rattle.ft_admit.specs.declared.numbers.Sort.{Sort}
use Rattle.ft_admit.specs.declared.numbers.Sort.TheVariants as sort

abbrev pub declares : Sort → Item → Bool
declares sort.Variable item = declares_variable item
declares sort.Memory item = declares_memory item
