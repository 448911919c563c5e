use Rattle.std.proofs.Common.{◌≡◌, take}
use Rattle.std.specs.List.{flat_map}
use Rattle.ft_names.specs.meaning.Cards.{under}
use Rattle.ft_build.specs.meaning.Blocks.{build_block}
use Rattle.ft_build.proofs.blocks.build_blocks.Given as goal

abbrev pub invariant-loop-item : goal.invariant-loop-item
invariant-loop-item l = l.blocks ≡ flat_map (build_block (under l.cards)) (take l.item-index l.items)
