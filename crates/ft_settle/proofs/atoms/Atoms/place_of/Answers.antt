use Rattle.std.proofs.Common.{◌∙◌}
use Rattle.ft_settle.specs.meaning.Settled.{same_form}
use Rattle.ft_settle.proofs.PlaceLemmas.{place-absent, place-there}
use Rattle.ft_settle.proofs.atoms.Atoms.place_of.Goals as goal

pub returns-in-Some : goal.returns-in-Some
returns-in-Some c = rw (← c.self.view_is) (place-there (same_form c.args.form) c.self.inside.keys.keys c.in-Some.place c.in-Some.ensures.index)

pub returns : goal.returns
returns c = rw (← c.self.view_is) (c.len.ensures.len ∙ place-absent (same_form c.args.form) c.self.inside.keys.keys c.in-None.ensures.index)
