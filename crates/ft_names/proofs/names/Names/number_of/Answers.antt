use Rattle.std.proofs.Common.{◌∙◌, ℕ, List, sym, ap, slice_get, option_map, option_and_then, Option}
use Rattle.ft_names.proofs.NameLemmas.{under-place}
use Rattle.ft_names.proofs.names.Names.number_of.Goals as goal

pub returns-in-Some : goal.returns-in-Some
returns-in-Some c =
    sym (under-place c.args.self.now c.args.name.now
    ∙ ap (λ (place : Option ℕ). option_map (λ (entry : List ℕ × ℕ). entry.1) (option_and_then (slice_get c.args.self.now) place))
    (sym c.in-Some.ensures)
    ∙ c.item.ensures)

pub returns-in-None : goal.returns-in-None
returns-in-None c =
    sym (under-place c.args.self.now c.args.name.now
    ∙ ap (λ (place : Option ℕ). option_map (λ (entry : List ℕ × ℕ). entry.1) (option_and_then (slice_get c.args.self.now) place))
    (sym c.in-None.ensures))
