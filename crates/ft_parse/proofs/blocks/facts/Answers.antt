use Rattle.std.proofs.Common.{rules, ◌≡◌, true, Ok}
use Rattle.ft_parse.specs.parsers.Items.{as_fact_word, fact_part_by}
use Rattle.ft_read.specs.parsers.Combinators.{begins, can}
use Rattle.ft_parse.specs.parsers.Steps.{one_more}
use Rattle.ft_parse.proofs.BlockLemmas.{facts_less}
use Rattle.ft_parse.proofs.blocks.facts.Goals as goal

pub loop-alloc-smaller : goal.loop-alloc-smaller
loop-alloc-smaller c =
    let tested : begins (can as_fact_word) c.loop-alloc.cursor.rest ≡ true = search rules in
    let read : one_more (fact_part_by c.args.before.now) c.loop-alloc.facts c.loop-alloc.cursor
    ≡ (Ok c.more_facts-in-loop-alloc.new.facts, c.more_facts-in-loop-alloc.new.cursor) = search rules in
    facts_less c.args.before.now c.loop-alloc.facts c.more_facts-in-loop-alloc.new.facts c.loop-alloc.cursor
    c.more_facts-in-loop-alloc.new.cursor tested read
