use Rattle.std.proofs.Common.{◌∙◌, sym, ◌++◌}
use Rattle.ft_core.specs.meaning.Reads.{term_reads}
use Rattle.ft_core.proofs.ReadLemmas.{adds-before, adds-silent, adds-last, reads-either}
use Rattle.ft_core.proofs.gathering.+add_term.Goals as goal

pub returns-in-Num : goal.returns-in-Num
returns-in-Num t c = adds-silent c.args.counts.vars c.args.counts.memories c.args.term.now c.args.items.now c.in-Num.is

pub returns-in-Num-2 : goal.returns-in-Num-2
returns-in-Num-2 t c = adds-silent c.args.counts.vars c.args.counts.memories c.args.term.now c.args.items.now c.in-Num.is

pub returns-in-Prev : goal.returns-in-Prev
returns-in-Prev t c = adds-before c.args.counts.vars c.args.counts.memories c.args.term.now c.args.items.now _ c.in-Prev.is

pub returns-in_ok-add_term-in-Add : goal.returns-in_ok-add_term-in-Add
returns-in_ok-add_term-in-Add t c = adds-last c.args.counts.vars c.args.counts.memories c.add_term-in-Add.result
    (term_reads c.args.term.now) (term_reads c.get.result.now) (term_reads c.get-in-Add.result.now)
    c.args.items.now c.add_term.new.items c.add_term-in-Add.new.items
    (reads-either c.args.term.now c.in-Add.a c.in-Add.b c.in-Add.is ∙ (λ i. term_reads (sym c.get.ensures i)
    ++ term_reads (sym c.get-in-Add.ensures i)))
    c.in_ok-add_term-in-Add.ensures c.add_term-in-Add.ensures
