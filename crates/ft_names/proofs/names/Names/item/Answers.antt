use Rattle.ft_names.proofs.NameLemmas.{number-at}
use Rattle.ft_names.proofs.names.Names.item.Goals as goal

pub returns : goal.returns
returns c = rw (← c.self.view_is) (number-at c.self.inside.items.entries c.args.place c.index.result.now c.index.ensures)
