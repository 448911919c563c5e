use Rattle.std.proofs.Common.{◌∙◌, ◌++◌, ◌∷◌, [], sym, ap}
use Rattle.ft_names.specs.meaning.Declared.{Listing, is_among, names_in}
use Rattle.ft_names.proofs.NameLemmas.{goes-last, shown}
use Rattle.ft_names.proofs.names.Names.add.Goals as goal

pub returns-clause-added : goal.returns-clause-added
returns-clause-added c =
    ap shown c.in_ok-insert.ensures.entries
    ∙ goes-last c.args.name.now c.self.inside.items.entries c.in_ok-key.key c.args.item (c.in_ok-key.ensures.items_if_clones_equal
    (λ x y e. e))
    (ap (λ (list : Listing). is_among (names_in list) c.args.name.now) c.self.view_is ∙ sym c.has.ensures ∙ c.if-has.false)
    ∙ ap (λ (list : Listing). list ++ (c.args.name.now, c.args.item) ∷ []) c.self.view_is
