use Rattle.std.proofs.Common.{◌≡◌, codes, length}
use Rattle.ft_read.specs.meaning.Lexeme.{as_word}
use Rattle.ft_parse.specs.parsers.Items.{vrow_by}
use Rattle.ft_read.specs.parsers.Combinators.{can}
use Rattle.ft_parse.specs.parsers.Repetition.{many}
use Rattle.ft_parse.specs.parsers.Steps.{one_more}
use Rattle.ft_parse.proofs.tables.vector_rows.Given as goal

abbrev pub invariant-loop-alloc : goal.invariant-loop-alloc
invariant-loop-alloc l =
    many (can (as_word (codes "row"))) (one_more vrow_by) l.initial.rows l.initial.cursor
    ≡ many (can (as_word (codes "row"))) (one_more vrow_by) l.rows l.cursor

abbrev pub decreases-loop-alloc : goal.decreases-loop-alloc
decreases-loop-alloc l = length l.cursor.rest
