use Rattle.std.proofs.Common.{◌≡◌, codes, length}
use Rattle.ft_read.specs.meaning.Lexeme.{as_sign}
use Rattle.ft_parse.specs.parsers.Items.{more_entries_by}
use Rattle.ft_read.specs.parsers.Combinators.{can}
use Rattle.ft_parse.specs.parsers.Repetition.{many}
use Rattle.ft_parse.proofs.lists.entries.Given as goal

abbrev pub invariant-loop-alloc : goal.invariant-loop-alloc
invariant-loop-alloc l =
    many (can (as_sign (codes ","))) more_entries_by l.initial.entries l.initial.cursor
    ≡ many (can (as_sign (codes ","))) more_entries_by l.entries l.cursor

abbrev pub decreases-loop-alloc : goal.decreases-loop-alloc
decreases-loop-alloc l = length l.cursor.rest
