-- The canonical text of a tree.
use Rattle.std.specs.Prelude.{ℕ, List}
use Rattle.std.specs.List.{flat_map}
use Rattle.ft_tree.specs.declared.tree.Tree.{Tree}
use Rattle.ft_tree.specs.meaning.Line.{Line, line_bytes}
use Rattle.ft_tree.specs.meaning.Lines.{set_lines}

-- the lines of a tree
abbrev pub tree_lines : Tree → List Line
tree_lines tree = set_lines tree.name tree.period tree.splits tree.depth tree.items

-- the one canonical text of a tree
abbrev pub canonical : Tree → List ℕ
canonical tree = flat_map line_bytes (tree_lines tree)
