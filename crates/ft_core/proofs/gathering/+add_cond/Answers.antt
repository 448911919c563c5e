use Rattle.std.proofs.Common.{◌∙◌, sym, ap, ◌++◌}
use Rattle.ft_core.specs.meaning.Reads.{term_reads, cond_reads}
use Rattle.ft_core.specs.laws.Equations.{reads-Compare}
use Rattle.ft_core.proofs.ReadLemmas.{adds-constant, adds-last, cond_reads-either}
use Rattle.ft_core.proofs.gathering.+add_cond.Goals as goal

pub returns-in-Yes : goal.returns-in-Yes
returns-in-Yes t c = adds-constant c.args.counts.vars c.args.counts.memories c.args.cond.now c.args.items.now c.in-Yes.is

pub returns-in-Yes-2 : goal.returns-in-Yes-2
returns-in-Yes-2 t c = adds-constant c.args.counts.vars c.args.counts.memories c.args.cond.now c.args.items.now c.in-Yes.is

pub returns-in_ok-add_term-in-Compare : goal.returns-in_ok-add_term-in-Compare
returns-in_ok-add_term-in-Compare t c = adds-last c.args.counts.vars c.args.counts.memories c.add_term-in-Compare.result
    (cond_reads c.args.cond.now) (term_reads c.in-Compare.a) (term_reads c.in-Compare.b)
    c.args.items.now c.add_term.new.items c.add_term-in-Compare.new.items
    (ap cond_reads c.in-Compare.is ∙ reads-Compare c.in-Compare.field-0 c.in-Compare.a c.in-Compare.b)
    c.in_ok-add_term-in-Compare.ensures c.add_term-in-Compare.ensures

pub returns-in_ok-add_cond-in-And : goal.returns-in_ok-add_cond-in-And
returns-in_ok-add_cond-in-And t c = adds-last c.args.counts.vars c.args.counts.memories c.add_cond-in-And-2.result
    (cond_reads c.args.cond.now) (cond_reads c.get-in-And.result.now) (cond_reads c.get-in-And-2.result.now)
    c.args.items.now c.add_cond-in-And.new.items c.add_cond-in-And-2.new.items
    (cond_reads-either c.args.cond.now c.in-And.a c.in-And.b c.in-And.is
    ∙ (λ i. cond_reads (sym c.get-in-And.ensures i) ++ cond_reads (sym c.get-in-And-2.ensures i)))
    c.in_ok-add_cond-in-And.ensures c.add_cond-in-And-2.ensures
