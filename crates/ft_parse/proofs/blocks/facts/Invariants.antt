use Rattle.std.proofs.Common.{◌≡◌, length}
use Rattle.ft_parse.specs.parsers.Items.{as_fact_word, fact_part_by}
use Rattle.ft_read.specs.parsers.Combinators.{can}
use Rattle.ft_parse.specs.parsers.Repetition.{many}
use Rattle.ft_parse.specs.parsers.Steps.{one_more}
use Rattle.ft_parse.proofs.blocks.facts.Given as goal

abbrev pub invariant-loop-alloc : goal.invariant-loop-alloc
invariant-loop-alloc l =
    many (can as_fact_word) (one_more (fact_part_by l.before)) l.initial.facts l.initial.cursor
    ≡ many (can as_fact_word) (one_more (fact_part_by l.before)) l.facts l.cursor

abbrev pub decreases-loop-alloc : goal.decreases-loop-alloc
decreases-loop-alloc l = length l.cursor.rest
