use Rattle.std.proofs.Common.{◌≡◌, ◌++◌, OnOk, subst}
use Rattle.ft_report.proofs.NameLemmas.{fact-name}
use Rattle.ft_report.proofs.titles.add_obligation_of_fact.Goals as goal

pub returns : goal.returns
returns c =
    subst (λ name. OnOk c.add_fact_at.result (c.add_fact_at.new.text ≡ c.args.text.now ++ name))
    (fact-name c.args.tables.now c.args.number c.fact_at-at.result c.fact_at-at.ensures) c.add_fact_at.ensures
