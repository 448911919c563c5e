use Rattle.std.proofs.Common.{rules, ◌≡◌, true, codes, Ok}
use Rattle.ft_read.specs.meaning.Lexeme.{as_sign}
use Rattle.ft_parse.specs.parsers.Items.{more_entries_by}
use Rattle.ft_read.specs.parsers.Combinators.{begins, can}
use Rattle.ft_parse.proofs.ListLemmas.{entries_less}
use Rattle.ft_parse.proofs.lists.entries.Goals as goal

pub loop-alloc-smaller : goal.loop-alloc-smaller
loop-alloc-smaller c =
    let tested : begins (can (as_sign (codes ","))) c.loop-alloc.cursor.rest ≡ true = search rules in
    let read : more_entries_by c.loop-alloc.entries c.loop-alloc.cursor ≡ (Ok c.more_entries.new.entries, c.more_entries.new.cursor) =
    search rules in
    entries_less c.loop-alloc.entries c.more_entries.new.entries c.loop-alloc.cursor c.more_entries.new.cursor tested read
