use Rattle.std.proofs.lemmas.List.Elements.{Contains-get_or}
use Rattle.std.specs.Prelude.{slice_index_or}
use Rattle.ft_core.proofs.numbering.numbers_of.Goals as goal

pub bounds-numbers-item : goal.bounds-numbers-item
bounds-numbers-item c =
    c.requires (slice_index_or c.args.items.now c.loop-item.item-index 0)
    (Contains-get_or c.args.items.now c.loop-item.item-index 0 c.loop-item-test.true)
