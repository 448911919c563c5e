use Rattle.ft_oblige.proofs.FindLemmas.{finds-compare}
use Rattle.ft_oblige.proofs.reading.+find_in.Goals as goal

pub returns-in-Compare : goal.returns-in-Compare
returns-in-Compare t c =
    finds-compare c.args.cond.now c.args.found.now c.in-Compare.field-0 c.in-Compare.field-1 c.in-Compare.field-2 c.in-Compare.is
