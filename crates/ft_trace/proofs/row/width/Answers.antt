use Rattle.std.proofs.Common.{◌∙◌, sym, ap, List}
use Rattle.std.specs.List.{count_by}
use Rattle.ft_core.specs.declared.tables.Var.{Var}
use Rattle.ft_trace.specs.rows.Row.{is_monitored}
use Rattle.ft_trace.proofs.PlaceLemmas.{counted}
use Rattle.ft_trace.proofs.row.width.Goals as goal

pub returns : goal.returns
returns c = c.count_monitored.ensures ∙ ap (λ (vars : List Var). count_by is_monitored vars) c.as_slice.ensures
    ∙ sym (counted c.args.tables.now.vars)
