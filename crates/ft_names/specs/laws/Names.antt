-- What holds of the declared names of a set in which none stands a second time, and how many items a tree has.
use Rattle.std.specs.Prelude.{◌≡◌, ◌≤◌, List, None, length}
use Rattle.ft_tree.specs.declared.item.Item.{Item}
use Rattle.ft_tree.specs.declared.tree.Tree.{Tree}
use Rattle.ft_core.specs.checked.Distinct.{AreDistinct}
use Rattle.ft_names.specs.meaning.Declared.{listing, names_in}
use Rattle.ft_names.specs.meaning.NameFaults.{duplicate}

-- no two declarations have the same name
abbrev pub NamesDiffer : Type 0
NamesDiffer = (items : List Item) → duplicate items ≡ None → AreDistinct (names_in (listing 0 items))

abbrev pub FewItems : Type 0
FewItems = (tree : Tree) → length tree.items ≤ 1800
