use Rattle.ft_core.specs.meaning.Kinds.{section_of}
use Rattle.ft_scan.proofs.HomeLemmas.{has-home}
use Rattle.ft_scan.proofs.plan.home_of.Goals as goal

pub unreachable-requires : goal.unreachable-requires
unreachable-requires c = has-home c.args.tables.now (section_of c.args.side) c.args.variable c.get.result.now c.requires.variable
    c.in-None.is
    (c.requires.homes c.args.variable c.get.result.now c.get.ensures)
