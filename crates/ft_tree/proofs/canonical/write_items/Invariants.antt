use Rattle.std.proofs.Common.{◌≡◌, take}
use Rattle.std.specs.List.{flat_map}
use Rattle.ft_tree.specs.meaning.Lines.{item_lines}
use Rattle.ft_tree.specs.writing.Writer.{with_lines}
use Rattle.ft_tree.proofs.canonical.write_items.Given as goal

-- the items before this one are written
abbrev pub invariant-loop-item : goal.invariant-loop-item
invariant-loop-item l = l.writer ≡ with_lines l.initial.writer (flat_map item_lines (take l.item-index l.items))
