-- The set that a tree spells, and a checked set as its parts.
use Rattle.ft_tree.specs.declared.tree.Tree.{Tree}
use Rattle.ft_core.specs.declared.tables.Tables.{Tables}
use Rattle.ft_build.specs.declared.parts.Parts.{Parts}
use Rattle.ft_build.specs.meaning.Sets.{set_of}

abbrev pub set_of_tree : Tree → Parts
set_of_tree tree = set_of tree.name tree.period tree.splits tree.depth tree.items

abbrev pub parts_of : Tables → Parts
parts_of tables = record {
  name = tables.name;
  period = tables.period;
  splits = tables.splits;
  depth = tables.depth;
  vars = tables.vars;
  memories = tables.memories;
  tables = tables.tables;
  first = tables.first;
  always = tables.always;
  step = tables.step;
  blocks = tables.blocks;
}
