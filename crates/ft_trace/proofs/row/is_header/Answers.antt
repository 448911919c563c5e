use Rattle.std.proofs.Common.{◌≡◌, ◌∙◌, sym, ap, List, length}
use Rattle.std.specs.List.{list_all}
use Rattle.csv.specs.Records.{fields_of}
use Rattle.ft_core.specs.declared.tables.Var.{Var}
use Rattle.ft_core.specs.meaning.Kinds.{count_of, monitored}
use Rattle.ft_trace.specs.rows.Row.{is_named}
use Rattle.ft_trace.proofs.HeaderLemmas.{header-by, header-is}
use Rattle.ft_trace.proofs.row.is_header.Goals as goal

pub returns-then-len-width : goal.returns-then-len-width
returns-then-len-width c =
    let wide : length (fields_of c.args.row.now) ≡ count_of monitored c.args.tables.now.vars = sym c.len.ensures ∙ c.if-len-width.true
    ∙ c.width.ensures in
    let all : c.are_named.result ≡ list_all (is_named (fields_of c.args.row.now)) c.args.tables.now.vars = c.are_named.ensures
    ∙ ap (λ (vars : List Var). list_all (is_named (fields_of c.args.row.now)) vars) c.as_slice.ensures in (
      λ named. header-is c.args.tables.now (fields_of c.args.row.now) wide (sym all ∙ named),
      λ h. all
          ∙ header-by c.args.tables.now (fields_of c.args.row.now) h,
    )
