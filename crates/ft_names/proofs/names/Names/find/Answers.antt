use Rattle.std.proofs.Common.{◌∙◌, sym}
use Rattle.ft_names.proofs.NameLemmas.{place-key}
use Rattle.ft_names.proofs.names.Names.find.Goals as goal

pub returns-in-Some : goal.returns-in-Some
returns-in-Some c = rw (← c.self.view_is) (c.in-Some.ensures.index ∙ sym (place-key c.args.name.now c.self.inside.items.entries))

pub returns-in-None : goal.returns-in-None
returns-in-None c = rw (← c.self.view_is) (c.in-None.ensures.index ∙ sym (place-key c.args.name.now c.self.inside.items.entries))
