use Rattle.std.proofs.Common.{length}
use Rattle.ft_oblige.specs.meaning.Made.{meant}
use Rattle.ft_oblige.proofs.MadeLemmas.{about-low, numbered-made}
use Rattle.ft_oblige.proofs.numbered.obligation.Goals as goal

pub coverage-requires : goal.coverage-requires
coverage-requires c =
    about-low c.args.number c.about-table.result.0 (length c.args.tables.now.tables) (meant c.about-table.result.1) c.about-table.ensures
    c.requires.last

pub returns : goal.returns
returns c =
    numbered-made c.args.tables.now c.number_laws.ensures.tables c.args.number c.about-table.result.0 c.about-table.result.1
    c.in_ok-made.made c.about-table.ensures c.requires.last c.in_ok-made.ensures
