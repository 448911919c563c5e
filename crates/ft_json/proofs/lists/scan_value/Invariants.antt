use Rattle.std.proofs.Common.{◌≡◌, take, map}
use Rattle.std.specs.List.{filter}
use Rattle.serde_json.specs.View.{view}
use Rattle.ft_trace.specs.rows.Row.{is_monitored}
use Rattle.ft_json.specs.meaning.Values.{variable_data}
use Rattle.ft_json.proofs.lists.scan_value.Given as goal

abbrev pub invariant-vars : goal.invariant-vars
invariant-vars l = map view l.values.items ≡ map (variable_data l.scan) (filter is_monitored (take l.var-index l.vars))
