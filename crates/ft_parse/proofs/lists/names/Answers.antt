use Rattle.std.proofs.Common.{rules, ◌≡◌, true, codes, Ok}
use Rattle.ft_read.specs.meaning.Lexeme.{as_sign}
use Rattle.ft_parse.specs.parsers.Items.{more_names_by}
use Rattle.ft_read.specs.parsers.Combinators.{begins, can}
use Rattle.ft_parse.proofs.ListLemmas.{names_less}
use Rattle.ft_parse.proofs.lists.names.Goals as goal

pub loop-alloc-smaller : goal.loop-alloc-smaller
loop-alloc-smaller c =
    let tested : begins (can (as_sign (codes ","))) c.loop-alloc.cursor.rest ≡ true = search rules in
    let read : more_names_by c.args.most c.args.which c.loop-alloc.names c.loop-alloc.cursor
    ≡ (Ok c.more_names.new.names, c.more_names.new.cursor) = search rules in
    names_less c.args.most c.args.which c.loop-alloc.names c.more_names.new.names c.loop-alloc.cursor c.more_names.new.cursor tested read
