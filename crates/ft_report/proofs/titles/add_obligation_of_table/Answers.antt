use Rattle.std.proofs.Common.{◌≡◌, ◌++◌, ◌-◌, refl, OnOk, subst}
use Rattle.ft_report.proofs.NameLemmas.{table-name}
use Rattle.ft_report.proofs.titles.add_obligation_of_table.Goals as goal

pub returns : goal.returns
returns c =
    subst (λ name. OnOk c.add_one_of.result (c.add_one_of.new.text ≡ c.args.text.now ++ name))
    (table-name c.args.tables.now c.number_laws.ensures.tables c.args.number (c.args.number - 1) c.thirds-place.result.0
    c.thirds-place.result.1 refl c.thirds-place.ensures.sum c.thirds-place.ensures.rest c.requires.some c.requires.below)
    c.add_one_of.ensures
