use Rattle.std.proofs.Common.{◌≡◌, ◌++◌, codes, take}
use Rattle.std.specs.List.{flat_map}
use Rattle.std.specs.Fmt.{signed_decimal}
use Rattle.ft_certs.proofs.writing.add_values.Given as goal

abbrev pub invariant-values : goal.invariant-values
invariant-values l = l.text ≡ l.initial.text ++ flat_map (λ v. codes "," ++ signed_decimal v) (take l.value-index l.values)
