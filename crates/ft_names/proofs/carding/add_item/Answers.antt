use Rattle.std.proofs.Common.{◌∙◌, sym, ap}
use Rattle.ft_tree.specs.meaning.Limits.{is_item}
use Rattle.ft_names.proofs.CardLemmas.{kind-lawful}
use Rattle.ft_names.proofs.carding.add_item.Goals as goal

pub kind_values-requires-clause-here : goal.kind_values-requires-clause-here
kind_values-requires-clause-here c =
    kind-lawful c.in-Variable.kind c.in-Variable.name c.in-Variable.of c.in-Variable.init (ap is_item (sym c.in-Variable.is)
    ∙ c.requires.here)
