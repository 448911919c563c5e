use Rattle.std.proofs.Common.{◌≡◌, length}
use Rattle.ft_parse.specs.parsers.Items.{is_item_start, more_items_by}
use Rattle.ft_parse.specs.parsers.Repetition.{many}
use Rattle.ft_parse.proofs.sets.read_items.Given as goal

abbrev pub invariant-loop-alloc : goal.invariant-loop-alloc
invariant-loop-alloc l = many is_item_start more_items_by l.initial.items l.initial.cursor
    ≡ many is_item_start more_items_by l.items l.cursor

abbrev pub decreases-loop-alloc : goal.decreases-loop-alloc
decreases-loop-alloc l = length l.cursor.rest
