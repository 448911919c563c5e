use Rattle.std.proofs.Common.{◌≡◌, ◌∙◌, sym, ap, List, length}
use Rattle.std.specs.List.{count_by, list_all}
use Rattle.ft_core.specs.declared.tables.Var.{Var}
use Rattle.ft_allowed.specs.building.Ranging.{is_monitored, is_served}
use Rattle.ft_allowed.proofs.RowLemmas.{no-eqb, row-has, row-is}
use Rattle.ft_allowed.proofs.ranging.is_row.Goals as goal

pub returns-then-row-count_monitored : goal.returns-then-row-count_monitored
returns-then-row-count_monitored c =
    let S = c.args.tables.now in
    let row = c.args.row.now in
    let vars = c.as_slice-vars.ensures in
    let long : length row ≡ count_by is_monitored S.vars =
    c.if-row-count_monitored.true ∙ c.count_monitored.ensures ∙ ap (λ (vs : List Var). count_by is_monitored vs) vars in
    let served : c.are_served.result ≡ list_all (is_served row) S.vars =
    c.are_served.ensures ∙ ap (λ (vs : List Var). list_all (is_served row) vs) vars in (
      λ yes. row-is S row c.laws.ensures.at_place long (sym served ∙ yes),
      λ list. served ∙ (row-has S row c.laws.ensures.inside c.laws.ensures.at_place list).1,
    )

pub returns-else-row-count_monitored : goal.returns-else-row-count_monitored
returns-else-row-count_monitored c =
    let S = c.args.tables.now in
    let row = c.args.row.now in (
      λ yes. absurd (no-eqb (length row) c.count_monitored.result c.if-row-count_monitored.false yes),
      λ list. absurd (c.if-row-count_monitored.false ((row-has S row c.laws.ensures.inside c.laws.ensures.at_place list).0
          ∙ sym (ap (λ (vs : List Var). count_by is_monitored vs) c.as_slice-vars.ensures) ∙ sym c.count_monitored.ensures)),
    )
