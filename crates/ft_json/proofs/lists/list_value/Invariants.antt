use Rattle.std.proofs.Common.{◌≡◌, take, map}
use Rattle.serde_json.specs.View.{view}
use Rattle.ft_json.specs.meaning.Values.{scan_data}
use Rattle.ft_json.proofs.lists.list_value.Given as goal

abbrev pub invariant-scans : goal.invariant-scans
invariant-scans l = map view l.scans.items ≡ map (scan_data l.tables.vars) (take l.scan l.list)
