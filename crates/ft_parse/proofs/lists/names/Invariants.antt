use Rattle.std.proofs.Common.{◌≡◌, codes, length}
use Rattle.ft_read.specs.meaning.Lexeme.{as_sign}
use Rattle.ft_parse.specs.parsers.Items.{more_names_by}
use Rattle.ft_read.specs.parsers.Combinators.{can}
use Rattle.ft_parse.specs.parsers.Repetition.{many}
use Rattle.ft_parse.proofs.lists.names.Given as goal

abbrev pub invariant-loop-alloc : goal.invariant-loop-alloc
invariant-loop-alloc l =
    many (can (as_sign (codes ","))) (more_names_by l.most l.which) l.initial.names l.initial.cursor
    ≡ many (can (as_sign (codes ","))) (more_names_by l.most l.which) l.names l.cursor

abbrev pub decreases-loop-alloc : goal.decreases-loop-alloc
decreases-loop-alloc l = length l.cursor.rest
