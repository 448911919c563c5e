use Rattle.ft_core.proofs.ItemLemmas.{are-reads}
use Rattle.ft_core.proofs.gathering.plain_reads.Goals as goal

pub returns : goal.returns
returns c = are-reads c.args.vars c.args.memories.now c.args.tables.now c.in_ok-lists.lists c.add_memories.new.lists c.requires.shapes
    c.in_ok-lists.ensures c.in_ok-add_memories.ensures
