use Rattle.std.proofs.lemmas.Result.{IfOk-weaker}
use Rattle.ft_core.proofs.ItemLemmas.{are-items}
use Rattle.ft_core.proofs.NumberingLemmas.{are-reads-by, are-numbered-items}
use Rattle.ft_core.proofs.numbering.reads_within.Goals as goal

pub renumbered-requires-clause-items : goal.renumbered-requires-clause-items
renumbered-requires-clause-items c = are-items c.args.vars c.args.memories.now c.args.tables.now c.in_ok-reads.reads c.in_ok-reads.ensures

pub returns-clause-reads : goal.returns-clause-reads
returns-clause-reads c = IfOk-weaker c.renumbered.result _ _
    (λ lists moved. are-reads-by c.args.vars c.args.memories.now c.args.tables.now c.args.numbers.now c.in_ok-reads.reads lists
    c.requires.numbering c.in_ok-reads.ensures moved)
    c.renumbered.ensures

pub returns-clause-items : goal.returns-clause-items
returns-clause-items c = IfOk-weaker c.renumbered.result _ _
    (λ lists moved. are-numbered-items c.args.vars c.args.memories.now c.args.tables.now c.args.numbers.now c.in_ok-reads.reads lists
    c.requires.numbering c.in_ok-reads.ensures moved)
    c.renumbered.ensures
