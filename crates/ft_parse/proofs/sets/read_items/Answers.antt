use Rattle.std.proofs.Common.{rules, ◌≡◌, true, Ok}
use Rattle.ft_parse.specs.parsers.Items.{is_item_start, more_items_by}
use Rattle.ft_read.specs.parsers.Combinators.{begins}
use Rattle.ft_parse.proofs.BlockLemmas.{items_less}
use Rattle.ft_parse.proofs.sets.read_items.Goals as goal

pub loop-alloc-smaller : goal.loop-alloc-smaller
loop-alloc-smaller c =
    let tested : begins is_item_start c.loop-alloc.cursor.rest ≡ true = search rules in
    let read : more_items_by c.loop-alloc.items c.loop-alloc.cursor ≡ (Ok c.more_items.new.items, c.more_items.new.cursor) = search rules in
    items_less c.loop-alloc.items c.more_items.new.items c.loop-alloc.cursor c.more_items.new.cursor tested read
