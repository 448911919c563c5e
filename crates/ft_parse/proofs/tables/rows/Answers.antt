use Rattle.std.proofs.Common.{rules, ◌≡◌, true, codes, Ok}
use Rattle.ft_read.specs.meaning.Lexeme.{as_word}
use Rattle.ft_parse.specs.parsers.Items.{row_by}
use Rattle.ft_read.specs.parsers.Combinators.{begins, can}
use Rattle.ft_parse.specs.parsers.Steps.{one_more}
use Rattle.ft_parse.proofs.TableLemmas.{rows_less}
use Rattle.ft_parse.proofs.tables.rows.Goals as goal

pub loop-alloc-smaller : goal.loop-alloc-smaller
loop-alloc-smaller c =
    let tested : begins (can (as_word (codes "row"))) c.loop-alloc.cursor.rest ≡ true = search rules in
    let read : one_more row_by c.loop-alloc.rows c.loop-alloc.cursor ≡
    (Ok c.more_rows-in-loop-alloc.new.rows, c.more_rows-in-loop-alloc.new.cursor) = search rules in
    rows_less c.loop-alloc.rows c.more_rows-in-loop-alloc.new.rows c.loop-alloc.cursor c.more_rows-in-loop-alloc.new.cursor tested read
