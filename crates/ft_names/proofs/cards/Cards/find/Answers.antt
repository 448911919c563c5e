use Rattle.std.proofs.Common.{◌∙◌, sym, ap, slice_get, option_and_then}
use Rattle.ft_names.specs.meaning.Declared.{names_in}
use Rattle.ft_names.proofs.NameLemmas.{names_in-length, under-zip}
use Rattle.ft_names.proofs.cards.Cards.find.Goals as goal

pub returns-in-Some : goal.returns-in-Some
returns-in-Some c =
    rw (← c.self.view_is)
    (sym (under-zip (names_in c.self.inside.names) c.self.inside.list c.args.name.now (c.self.invariant
    ∙ sym (names_in-length c.self.inside.names))
    ∙ ap (option_and_then (slice_get c.self.inside.list)) (sym c.in-Some.ensures) ∙ c.get.ensures))

pub returns-in-None : goal.returns-in-None
returns-in-None c =
    rw (← c.self.view_is)
    (sym (under-zip (names_in c.self.inside.names) c.self.inside.list c.args.name.now (c.self.invariant
    ∙ sym (names_in-length c.self.inside.names))
    ∙ ap (option_and_then (slice_get c.self.inside.list)) (sym c.in-None.ensures)))
