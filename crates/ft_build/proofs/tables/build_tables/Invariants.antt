use Rattle.std.proofs.Common.{◌≡◌, take}
use Rattle.std.specs.List.{flat_map}
use Rattle.ft_names.specs.meaning.Cards.{under}
use Rattle.ft_build.specs.meaning.Tables.{build_table}
use Rattle.ft_build.proofs.tables.build_tables.Given as goal

abbrev pub invariant-loop-item : goal.invariant-loop-item
invariant-loop-item l = l.tables ≡ flat_map (build_table (under l.cards)) (take l.item-index l.items)
