use Rattle.ft_oblige.proofs.FindLemmas.{finds-hyst}
use Rattle.ft_oblige.proofs.reading.find_in_memory.Goals as goal

pub returns-in-Hyst : goal.returns-in-Hyst
returns-in-Hyst c = finds-hyst c.args.memory.now c.args.found.now c.in-Hyst.name c.in-Hyst.side c.in-Hyst.term c.in-Hyst.lo c.in-Hyst.hi
    c.in-Hyst.start c.in-Hyst.is
