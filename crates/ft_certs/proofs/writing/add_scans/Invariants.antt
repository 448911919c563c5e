use Rattle.std.proofs.Common.{◌≡◌, ◌++◌, take}
use Rattle.std.specs.List.{flat_map}
use Rattle.ft_certs.specs.meaning.Text.{end_line, values_text}
use Rattle.ft_certs.proofs.writing.add_scans.Given as goal

abbrev pub invariant-scans : goal.invariant-scans
invariant-scans l = l.text ≡ l.initial.text ++ flat_map (λ scan. values_text scan ++ end_line) (take l.scan l.list)
