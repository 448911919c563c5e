-- Trees that weren't read from a text.
use Rattle.std.specs.Prelude.{◌≡◌}
use Rattle.ft_tree.specs.declared.tree.Tree.{Tree}
use Rattle.ft_tree.specs.meaning.Bare.{BareSet, bare_tree}

-- the parts of a tree as they are
abbrev pub own_parts : Tree → BareSet
own_parts tree = record { name = tree.name; period = tree.period; splits = tree.splits; depth = tree.depth; items = tree.items }

-- each place of the tree is the one that stands for all
abbrev pub HasNoPlaces : Tree → Type 0
HasNoPlaces tree = bare_tree tree ≡ own_parts tree
